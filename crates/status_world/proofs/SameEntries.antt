-- Two indexes that are compared entry by entry.
use Rattle.std.proofs.Common.{◌≡◌, sym, ap, subst, ◌∙◌, ℕ, ◌+◌, ◌<◌, List, length, take, slice_index_or}
use Rattle.std.proofs.lemmas.List.{get_or-map, length-map, take_more_same}
use Rattle.status_index.specs.declared.entry.Entry.{Entry}
use Rattle.status_index.specs.declared.entry.PathStorage.{PathStorage}
use Rattle.status_index.specs.declared.state.State.{State}
use Rattle.status_index.specs.Entries.{IndexEntry, index_entry}
use Rattle.status_index.specs.States.{entries_of, backing_of, index_of}

-- An index's entries and storage, as borrowed from it, and a position.
pub record IsLent (s : State) (paths : PathStorage) (es : List Entry) (at : ℕ) : Type 0 where
  pub backing : paths ≡ backing_of s
  pub entries : es ≡ entries_of s
  pub inside : at < length es

long_enough : (s : State) (paths : PathStorage) (es : List Entry) (at : ℕ) → IsLent s paths es at → at < length (index_of s)
long_enough s paths es at lent =
    subst (λ n. at < n) (ap length lent.entries ∙ sym (length-map (entries_of s) (index_entry (backing_of s)))) lent.inside

entry_there : (s : State) (paths : PathStorage) (es : List Entry) (at : ℕ) (d : Entry) (x : IndexEntry) → IsLent s paths es at
    → slice_index_or (index_of s) at x ≡ index_entry paths (slice_index_or es at d)
entry_there s paths es at d x lent =
    get_or-map (index_entry (backing_of s)) (entries_of s) at d x (subst (λ l. at < length l) lent.entries lent.inside)
    ∙ (ap (λ l. index_entry (backing_of s) (slice_index_or l at d)) (sym lent.entries)
    ∙ ap (λ p. index_entry p (slice_index_or es at d)) (sym lent.backing))

module _ (a b : State) (paths others : PathStorage) (es fs : List Entry) (at : ℕ) (d e : Entry) (left : IsLent a paths es at) (right : IsLent b others fs at) where
  -- One more entry is equal.
  pub same_more : take at (index_of a) ≡ take at (index_of b) → index_entry paths (slice_index_or es at d) ≡ index_entry others (slice_index_or fs at e)
      → take (at + 1) (index_of a) ≡ take (at + 1) (index_of b)
  same_more so_far here =
      let x : IndexEntry = index_entry paths d in
      take_more_same (index_of a) (index_of b) at x (long_enough a paths es at left) (long_enough b others fs at right) so_far
      (entry_there a paths es at d x left ∙ (here ∙ sym (entry_there b others fs at e x right)))

  -- If two entries differ, the indexes differ.
  pub not_same : (index_entry paths (slice_index_or es at d) ≡ index_entry others (slice_index_or fs at e) → ⊥) → (index_of a) ≡ index_of b → ⊥
  not_same other same =
      let x : IndexEntry = index_entry paths d in
      other (sym (entry_there a paths es at d x left) ∙ (ap (λ l. slice_index_or l at x) same ∙ entry_there b others fs at e x right))
