pub mod Excluded
pub mod Rules
pub mod Views
