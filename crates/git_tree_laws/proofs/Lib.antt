pub mod Spelled
pub mod Copies
pub mod Leaves
pub mod Parts
pub mod Deeper
pub mod Built
pub mod Readable
pub mod Agreement
