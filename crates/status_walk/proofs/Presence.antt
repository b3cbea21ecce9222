-- Tests of a path's entries.
use Rattle.std.proofs.Common.{◌≡◌, refl, ap, ℕ, suc, Bool, true, false, not, ◌||◌, ◌==◌, List, [], ◌∷◌, length, arith}
use Rattle.std.proofs.lemmas.Bool.Decides.{nat_tests}
use Rattle.std.specs.List.{list_any, filter}
use Rattle.status_index.specs.declared.entry.Entry.{Entry}
use Rattle.status_index.specs.declared.entry.PathStorage.{PathStorage}
use Rattle.status_index.specs.Entries.{IndexEntry, index_entries}
use Rattle.status_index.specs.Mode.{is_submodule}

-- A stored entry has its mode in the index.
pub any-stored : (b : PathStorage) (es : List Entry) → list_any (λ e. is_submodule e.mode) (index_entries b es) ≡ list_any (λ e. is_submodule e.mode) es
any-stored b [] = refl
any-stored b (e ∷ es) = ap (λ x. is_submodule e.mode || x) (any-stored b es)

left_over : (n : ℕ) → not (suc n == 0) ≡ true
left_over n = grind (arith, nat_tests)

-- Some entry passes a test exactly if the list of those that pass isn't empty.
pub any-filter : (test : IndexEntry → Bool) (es : List IndexEntry) → not (length (filter test es) == 0) ≡ list_any test es
any-filter test [] = refl
any-filter test (e ∷ es) = by_test (test e) refl (any-filter test es)
  where
    by_test : (b : Bool) → test e ≡ b → not (length (filter test es) == 0) ≡ list_any test es → not (length (filter test (e ∷ es)) == 0) ≡ list_any test (e ∷ es)
    by_test true h rest = rw h (left_over (length (filter test es)))
    by_test false h rest = rw h rest
