pub mod Lines
pub mod Questions
pub mod Walks
pub mod Requests
pub mod Untracked
