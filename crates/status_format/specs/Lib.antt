pub mod Entry
pub mod Reading
pub mod Reads
pub mod Storable
pub mod StoredEntry
pub mod Words
