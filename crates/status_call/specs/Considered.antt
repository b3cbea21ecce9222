-- The considered entries, and which of them are skipped.
use Rattle.std.specs.Prelude.{ℕ, nat_lt, nat_le, Bool, not, ◌&&◌, ◌||◌, List, [], ◌∷◌, filter, if◌then◌else◌}
use Rattle.std.specs.List.{list_any, position_or_len}
use Rattle.std.specs.Str.{bytes_eq}
use Rattle.status_index.specs.declared.entry.Flags.{Flags}
use Rattle.status_index.specs.declared.entry.TheConstants.Flags.{ASSUME_VALID, FSMONITOR_VALID, SKIP_WORKTREE, UPTODATE}
use Rattle.status_index.specs.FlagBits.{has_bits}
use Rattle.status_index.specs.Entries.{IndexEntry, index_entries, stage_of}
use Rattle.status_index.specs.Mode.{is_submodule}
use Rattle.status_index.specs.Stretch.{is_under, part_of}
use Rattle.status_call.specs.declared.index_as_worktree.considered.Considered.{Considered}
use Rattle.status_call.specs.Query.{Query}

-- Entries whose paths start with the pathspec's prefix, or all if no path does.
abbrev pub considered : List ℕ → List IndexEntry → List IndexEntry
considered prefix es = if list_any (is_under prefix) es then filter (is_under prefix) es else es

-- The position of the first considered entry in the whole index.
abbrev pub considered_start : List ℕ → List IndexEntry → ℕ
considered_start prefix es =
    if list_any (is_under prefix) es then position_or_len (is_under prefix) es else 0

-- The considered entries of a call.
abbrev pub part_entries : Considered → List IndexEntry
part_entries c = index_entries c.backing.now (part_of c.entries.now c.start c.end)

-- Whether an entry has a flag.
abbrev pub has_flag : IndexEntry → Flags → Bool
has_flag e flag = has_bits e.flags.0 flag.0

-- Whether one of these flags skips an entry.
abbrev pub is_flagged : IndexEntry → Bool
is_flagged e = list_any (has_flag e)
    (UPTODATE ∷ SKIP_WORKTREE ∷ ASSUME_VALID ∷ FSMONITOR_VALID ∷ [])

abbrev pub same_path : IndexEntry → IndexEntry → Bool
same_path a b = bytes_eq a.path b.path

module _ {T U : Type 0} (q : Query T U) where
  -- Whether the pathspec excludes an entry.
  abbrev pub is_excluded : IndexEntry → Bool
  is_excluded e = not (q.included e.path (is_submodule e.mode))

  -- Up to date, skip-worktree, assume-valid or fsmonitor-valid, or not in the pathspec.
  abbrev pub is_skipped : IndexEntry → Bool
  is_skipped e = is_flagged e || is_excluded e

  -- `d` isn't skipped, has e's path, and has a smaller stage above 0.
  abbrev pub takes_over : IndexEntry → IndexEntry → Bool
  takes_over d e = not (is_skipped d) && same_path d e && nat_lt 0 (stage_of d)
      && nat_lt (stage_of d) (stage_of e)

  -- An unskipped entry of the same path has a smaller stage above 0. That entry is considered, and its path's conflict is
  -- reported already.
  abbrev pub is_over : List IndexEntry → IndexEntry → Bool
  is_over es e = list_any (λ d. takes_over d e) es

-- The considered entries of e's path, from e's stage up.
abbrev pub stages_from : List IndexEntry → IndexEntry → List IndexEntry
stages_from es e = filter (λ d. same_path d e && nat_le (stage_of e) (stage_of d)) es
