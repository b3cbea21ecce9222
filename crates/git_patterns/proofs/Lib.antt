pub mod Backwards
pub mod Items
pub mod Leaving
mod Matching
mod Tables
