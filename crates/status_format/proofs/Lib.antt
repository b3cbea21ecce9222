pub mod EntryBack
pub mod FlagsBack
pub mod Stamps
