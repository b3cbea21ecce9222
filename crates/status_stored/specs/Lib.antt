pub mod Loading
pub mod Reading
pub mod Reopening
pub mod RoundTrip
pub mod Steps
pub mod Storable
pub mod StoredIndex
