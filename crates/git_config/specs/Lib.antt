pub mod Conditions
pub mod Views
