pub mod Clean
pub mod Lengths
pub mod Returns
pub mod Texts
