-- The lines of a worktree's nodes that an index doesn't have, as git has them, by what the worktree returns.
use Rattle.std.specs.Prelude.{◌≡◌, ◌⊎◌, ℕ, ◌&&◌, ◌||◌, not, Bool, true, false, List, [], ◌∷◌, ◌++◌, Some, None, if◌then◌else◌}
use Rattle.status_index.specs.declared.stat.NodeKind.TheVariants as kinds
use Rattle.status_walk.specs.Untracked.{is_tracked}
use Rattle.git_ignore.specs.Excluded.{is_matched}
use Rattle.git_ignore.specs.Rules.{Rule}
use Rattle.git_untracked.specs.Lines.{Lines, IsListOf, and_lines, collapsed, line_of, is_none_of, no_lines, own_line}
use Rattle.git_untracked.specs.Questions.{HasRules, Question, Within, has_below, is_passed_over, is_special}

-- The line of a node. An ignored one has a line only if those are wanted.
abbrev pub wanted_line : Question → Bool → List ℕ → Lines
wanted_line q is_ignored path = if is_ignored && not q.ignored then no_lines else line_of is_ignored path

-- A file or a link has a line if no entry has its path, and it is selected.
abbrev pub file_lines : Question → Bool → List ℕ → Lines
file_lines q is_ignored path = if is_tracked q.index path || not (q.selects path false) then no_lines else wanted_line q is_ignored path

-- Whether the node at a path is ignored: it is within an ignored folder, or the rules exclude it.
abbrev pub is_ignored : Within → List ℕ → Bool → Bool
is_ignored w path is_folder = w.excluded || is_matched w.rules path is_folder

-- A folder isn't entered if it is ignored and ignored nodes have no lines, or if it isn't ignored, has no entry below it, isn't selected, and no
-- path below it is selected by itself.
abbrev pub is_unwanted : Question → Bool → Bool → List ℕ → Bool
is_unwanted q excluded leads path =
    if excluded then not q.ignored else not (q.selects path true || (leads || has_below q.index (path ++ 47 ∷ [])))

abbrev pub is_left_out : Question → Within → List ℕ → Bool
is_left_out q w path = is_unwanted q (is_ignored w path true) (q.leads path) path

mutual
  -- The lines of what is in a folder.
  pub data IsFolder (q : Question) : List ℕ → Within → Lines → Type 0 where
    gone : (folder : List ℕ) (w : Within) → q.may_list folder None → IsFolder q folder w no_lines
    listed : (folder : List ℕ) (w : Within) (rules : List Rule) (names : List (List ℕ)) (lines : Lines)
        → q.may_list folder (Some names) → HasRules q folder w rules
        → AreNodes q folder (record { rules = rules; excluded = w.excluded; one = w.one }) names lines → IsFolder q folder w lines

  -- The lines of the nodes of these names. If one line is enough, the names after it don't count.
  pub data AreNodes (q : Question) : List ℕ → Within → List (List ℕ) → Lines → Type 0 where
    none : (folder : List ℕ) (w : Within) → AreNodes q folder w [] no_lines
    next : (folder : List ℕ) (w : Within) (name : List ℕ) (names : List (List ℕ)) (lines more : Lines)
        → IsNamed q w folder name lines → AreNodes q folder w names more → AreNodes q folder w (name ∷ names) (and_lines lines more)
    enough : (folder : List ℕ) (w : Within) (name : List ℕ) (names : List (List ℕ)) (lines : Lines)
        → IsNamed q w folder name lines → w.one ≡ true → is_none_of lines ≡ false → AreNodes q folder w (name ∷ names) lines

  -- The lines of a name in a folder.
  pub data IsNamed (q : Question) : Within → List ℕ → List ℕ → Lines → Type 0 where
    special : (w : Within) (folder name : List ℕ) → is_special name ≡ true → IsNamed q w folder name no_lines
    node : (w : Within) (folder name : List ℕ) (lines : Lines) → is_special name ≡ false → IsNode q w (folder ++ name) lines → IsNamed q w folder name lines

  -- The lines of the node at a path, and of what is below it.
  pub data IsNode (q : Question) : Within → List ℕ → Lines → Type 0 where
    passed_over : (w : Within) (path : List ℕ) → is_passed_over q path ≡ true → IsNode q w path no_lines
    nothing : (w : Within) (path : List ℕ) → q.may_be path None → IsNode q w path no_lines
    other : (w : Within) (path : List ℕ) → q.may_be path (Some kinds.Other) → IsNode q w path no_lines
    file : (w : Within) (path : List ℕ) → is_passed_over q path ≡ false
        → q.may_be path (Some kinds.File) ⊎ q.may_be path (Some kinds.Link) → IsNode q w path (file_lines q (is_ignored w path false) path)
    left_out : (w : Within) (path : List ℕ) → q.may_be path (Some kinds.Directory) → is_left_out q w path ≡ true → IsNode q w path no_lines
    folder : (w : Within) (path : List ℕ) (lines : Lines) → is_passed_over q path ≡ false → q.may_be path (Some kinds.Directory)
        → is_left_out q w path ≡ false
        → IsSubfolder q w.rules (is_ignored w path true) (q.leads path) (is_tracked q.index path) (path ++ 47 ∷ []) lines → IsNode q w path lines

  -- The lines of a folder that is ignored or not, below which a path is selected by itself or not, and at whose path is an entry or not. With
  -- entries below it, it has no line itself. Another repository's is one line. Otherwise the lines of what is in it are its lines, or it replaces
  -- them, as an ignored one does even if a path below is selected: if none of them is of an ignored node, or all are, the first one is enough.
  pub data IsSubfolder (q : Question) : List Rule → Bool → Bool → Bool → List ℕ → Lines → Type 0 where
    with_entries : (rules : List Rule) (excluded leads tracked : Bool) (folder : List ℕ) (lines : Lines) → has_below q.index folder ≡ true
        → IsFolder q folder (record { rules = rules; excluded = excluded; one = false }) lines → IsSubfolder q rules excluded leads tracked folder lines
    repository : (rules : List Rule) (excluded leads tracked : Bool) (folder : List ℕ) → has_below q.index folder ≡ false → q.may_nest folder true
        → IsSubfolder q rules excluded leads tracked folder (if leads && not excluded then no_lines else own_line tracked folder excluded)
    each : (rules : List Rule) (excluded leads tracked : Bool) (folder : List ℕ) (lines : Lines) → has_below q.index folder ≡ false → q.may_nest folder false
        → (q.all || (leads && not excluded)) ≡ true → IsFolder q folder (record { rules = rules; excluded = excluded; one = false }) lines
        → IsSubfolder q rules excluded leads tracked folder lines
    whole : (rules : List Rule) (excluded leads tracked : Bool) (folder : List ℕ) (lines : Lines) → has_below q.index folder ≡ false → q.may_nest folder false
        → (q.all || (leads && not excluded)) ≡ false → IsFolder q folder (record { rules = rules; excluded = excluded; one = excluded || not q.ignored }) lines
        → IsSubfolder q rules excluded leads tracked folder (collapsed (own_line tracked folder) lines)

-- The lines of a worktree, with the rules of files that aren't in it: each once, in order.
abbrev pub AreUntracked : Question → List Rule → Lines → Type 0
AreUntracked q rules lines =
    (found : Lines) × IsFolder q [] (record { rules = rules; excluded = false; one = false }) found × IsListOf found lines
