pub mod Agree
pub mod Hashed
pub mod Identified
pub mod Lookings
pub mod Refusals
