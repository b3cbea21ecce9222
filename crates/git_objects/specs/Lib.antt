pub mod Objects
pub mod Splits
pub mod Contents
