pub mod Added
pub mod Allowed
pub mod Explained
pub mod Sights
