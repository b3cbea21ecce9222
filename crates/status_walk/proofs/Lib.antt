pub mod Presence
pub mod Walking
