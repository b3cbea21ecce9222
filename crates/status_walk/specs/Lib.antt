pub mod Untracked
pub mod WalkedNodes
pub mod Walks
pub mod WorktreeIds
