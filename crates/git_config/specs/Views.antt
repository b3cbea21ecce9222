-- The code's conditions and patterns as the definitions have them.
use Rattle.git_config.specs.Conditions.{Asks, Folders, GitDir, HasRemoteUrl, OnBranch}
use Rattle.git_config.specs.declared.conditions.Condition.{Condition}
use Rattle.git_config.specs.declared.conditions.Condition.TheVariants as conditions
use Rattle.git_config.specs.declared.folders.FolderPattern.{FolderPattern}

abbrev pub asks_view : Condition → Asks
asks_view (conditions.GitDir pattern folds_case) = GitDir folds_case pattern.now
asks_view (conditions.OnBranch pattern) = OnBranch pattern.now
asks_view (conditions.HasRemoteUrl pattern) = HasRemoteUrl pattern.now

abbrev pub folders_view : FolderPattern → Folders
folders_view p = (p.folds_case, (p.front.items, p.pattern.items))
