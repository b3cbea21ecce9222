-- The findings next to a status, and their lines.
use Rattle.std.proofs.Common.{◌≡◌, ◌∙◌, ◌++◌, List, [], ◌∷◌, inl, inr, refl, sym, ap}
use Rattle.std.proofs.lemmas.List.{append_assoc}
use Rattle.git_staged.specs.declared.error.TreeFault.{TreeFault}
use Rattle.git_staged.specs.declared.error.TreeFault.TheVariants as trees
use Rattle.git_untracked.specs.declared.folders.FolderFault.{FolderFault}
use Rattle.git_untracked.specs.declared.folders.FolderFault.TheVariants as folders
use Rattle.git_status.specs.Failures.{failure_of_folders, failure_of_head}
use Rattle.git_status.specs.Lines.{Row, row_line, row_lines}
use Rattle.git_status.specs.Runs.{IsUnfound}
use Rattle.git_status.specs.declared.lines.LineStyle.{LineStyle}

-- HEAD's files can't be read
pub head_unfound : (fault : TreeFault) → IsUnfound (failure_of_head fault)
head_unfound trees.Memory = inl refl
head_unfound (trees.Object id fault) = inr (inl (trees.Object id fault, refl))
head_unfound (trees.NoTree id) = inr (inl (trees.NoTree id, refl))
head_unfound trees.NotAscending = inr (inl (trees.NotAscending, refl))
head_unfound trees.MixedHash = inr (inl (trees.MixedHash, refl))
head_unfound trees.ManyItems = inr (inl (trees.ManyItems, refl))
head_unfound trees.TooDeep = inr (inl (trees.TooDeep, refl))

-- a folder or an ignore file can't be read
pub folders_unfound : (fault : FolderFault) → IsUnfound (failure_of_folders fault)
folders_unfound folders.Memory = inl refl
folders_unfound (folders.At path fault) = inr (inr (folders.At path fault, refl))
folders_unfound (folders.IgnoreFile path fault) = inr (inr (folders.IgnoreFile path fault, refl))
folders_unfound folders.TooDeep = inr (inr (folders.TooDeep, refl))

-- the lines of rows that follow others
pub lines_more : (style : LineStyle) (rows more : List Row) → row_lines style (rows ++ more) ≡ row_lines style rows ++ row_lines style more
lines_more style [] more = refl
lines_more style (row ∷ rows) more = ap (λ lines. row_line style row ++ lines) (lines_more style rows more) ∙ sym (append_assoc (row_line style row) (row_lines style rows) (row_lines style more))
