-- The attribute files of a repository.
use Rattle.std.specs.Prelude.{◌≡◌, ◌≤◌, true, List, [], ◌++◌, length, All}
use Rattle.git_attributes.specs.Files.{File}

-- A file outside of the worktree is for all of its paths, and may state macros.
pub record IsOutside (file : File) : Type 0 where
  pub folder : file.folder ≡ []
  pub has_macros : file.has_macros ≡ true

-- First come files of the system and of the user, then those within the worktree, and last the repository's own, if it has one.
-- So a file within the worktree is stronger than those of the system and of the user.
pub record AreRepositoryFiles (inner files : List File) : Type 0 where
  pub outer : List File
  pub own : List File
  pub outside : All IsOutside (outer ++ own)
  pub one : length own ≤ 1
  pub order : files ≡ outer ++ (inner ++ own)
