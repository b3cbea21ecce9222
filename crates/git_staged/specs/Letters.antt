-- How an index differs from a commit: the letters of git's first column (`git status --porcelain`). The commit is the list of
-- entries of the index that `git read-tree` makes of it.
use Rattle.std.specs.Prelude.{ℕ, ◌/◌, ◌==◌, ◌&&◌, ◌||◌, Bool, not, List, [], ◌∷◌, ◌++◌, Option, Some, None, if◌then◌else◌}
use Rattle.std.specs.List.{filter, flat_map, list_any}
use Rattle.std.specs.Str.{bytes_eq}
use Rattle.bstr.specs.BStr.{bstr_bytes}
use Rattle.status_index.specs.declared.mode.Mode.{Mode}
use Rattle.status_index.specs.declared.entry.TheConstants.Flags.{INTENT_TO_ADD}
use Rattle.status_index.specs.BlobId.{id_bytes}
use Rattle.status_index.specs.Entries.{IndexEntry, stage_of}
use Rattle.status_index.specs.FlagBits.{has_bits}
use Rattle.status_index.specs.Mode.{mode_bits}
use Rattle.status_index.specs.Stretch.{is_at}
use Rattle.git_staged.specs.declared.letters.Change.{Change}
use Rattle.git_staged.specs.declared.letters.Letter.{Letter}
use Rattle.git_staged.specs.declared.letters.Letter.TheVariants.{Added, Modified, TypeChanged, Deleted}

-- Two modes are of one type: of files, of links or of submodules. It is in the bits from 0o10000 on.
abbrev pub has_same_type : Mode → Mode → Bool
has_same_type a b = mode_bits a / 0x1000 == mode_bits b / 0x1000

-- The letter of an entry, by the commit's files at its path: there is none, or one.
abbrev pub letter_by : List IndexEntry → IndexEntry → Option Letter
letter_by [] e = Some Added
letter_by (file ∷ more) e =
    if not (has_same_type file.mode e.mode) then Some TypeChanged
    else (if mode_bits file.mode == mode_bits e.mode && bytes_eq (id_bytes file.id) (id_bytes e.id) then None else Some Modified)

-- An entry of `git add -N`: it isn't staged.
abbrev pub is_intended : IndexEntry → Bool
is_intended e = has_bits e.flags.0 INTENT_TO_ADD.0

-- The letter of an entry. A side of a conflict has none.
abbrev pub letter_of : List IndexEntry → IndexEntry → Option Letter
letter_of head e = if not (stage_of e == 0) || is_intended e then None else letter_by (filter (is_at e.path) head) e

-- The index has no entry at a path, except one of `git add -N`.
abbrev pub is_deleted : List IndexEntry → List ℕ → Bool
is_deleted index path = not (list_any (λ e. not (is_intended e)) (filter (is_at path) index))

-- The letter of a file of the commit at a path, if the index has no entry there except one of `git add -N`.
abbrev pub letter_of_file : List IndexEntry → List ℕ → Option Letter
letter_of_file index path = if is_deleted index path then Some Deleted else None

-- A path and its letter, if it has one, after others.
abbrev pub and_change : List (List ℕ × Letter) → List ℕ → Option Letter → List (List ℕ × Letter)
and_change found path None = found
and_change found path (Some letter) = found ++ (path, letter) ∷ []

-- The entries of an index with a letter.
abbrev pub changes : List IndexEntry → List IndexEntry → List (List ℕ × Letter)
changes head es = flat_map (λ e. and_change [] e.path (letter_of head e)) es

-- The files of a commit at whose paths the index has no entry except one of `git add -N`.
abbrev pub deletions : List IndexEntry → List IndexEntry → List (List ℕ × Letter)
deletions index files = flat_map (λ file. and_change [] file.path (letter_of_file index file.path)) files

abbrev pub change_view : Change → List ℕ × Letter
change_view c = (bstr_bytes c.path, c.letter)
