pub mod Lengths
pub mod Readings
pub mod Stretches
pub mod WrittenIndexes
