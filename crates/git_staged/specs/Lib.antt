pub mod First
pub mod Letters
pub mod TreeFiles
pub mod Trees
pub mod Folders
pub mod OpenFolders
pub mod Staged
pub mod Expanded
