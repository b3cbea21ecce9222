mod Auto
mod Binary
mod Cleaning
mod FirstBytes
mod FolderBarriers
mod FolderFronts
mod FolderSights
mod FoundFiles
mod Giving
mod KnownFiles
mod Leaving
mod Lines
mod PointerLines
pub mod Sent
mod SharedSearch
mod StagedFiles
