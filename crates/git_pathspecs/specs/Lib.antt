pub mod Elements
pub mod Lists
pub mod Names
pub mod Words
