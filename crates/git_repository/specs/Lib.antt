pub mod AttributeFiles
pub mod Intended
