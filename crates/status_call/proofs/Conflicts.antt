-- The conflict of a run, from the last of its entries of each stage.
use Rattle.std.proofs.Common.{◌≡◌, refl, sym, ap, ◌∙◌, ℕ, ◌+◌, ◌-◌, ◌<◌, ◌≤◌, Bool, true, false, not, cond, ◌==◌, inl, inr, List, [], ◌∷◌, length, find, reverse, take, slice_index_or, All, Option, Some, None, is_some, arith}
use Rattle.std.specs.List.{prefix_len, take_while}
use Rattle.std.specs.Option.{option_copied, option_map, option_or}
use Rattle.std.proofs.lemmas.Bool.{cases_eq, both_ways, cond-true, eq-eqb, eqb-false, not-true, and_parts}
use Rattle.std.proofs.lemmas.Grind.{reverse_onto}
use Rattle.std.proofs.lemmas.List.{length-map, length-take}
use Rattle.std.proofs.lemmas.List.Elements.{All-head}
use Rattle.std.proofs.lemmas.List.Folds.{find-append}
use Rattle.std.proofs.lemmas.List.Sums.{prefix_len_passes}
use Rattle.std.specs.Borrow.{Bor}
use Rattle.std.specs.Str.{bytes_eq}
use Rattle.status_index.specs.declared.entry.Entry.{Entry}
use Rattle.status_index.specs.declared.entry.PathStorage.{PathStorage}
use Rattle.status_index.specs.Entries.{IndexEntry, index_entry, index_entries, stage_of}
use Rattle.status_index.specs.FlagBits.{stage_of_bits}
use Rattle.status_call.specs.declared.index_as_worktree.types.Conflict.{Conflict}
use Rattle.status_call.specs.Conflicts.{IsConflict, conflict_named, conflict_of, entry_of_stage, has_stage, is_in_run, stored_of_stage}
use Rattle.status_call.proofs.Stretch.{All-take_from}

option_map_or : {X Y : Type 0} (f : X → Y) (o p : Option X) → option_map f (option_or o p) ≡ option_or (option_map f o) (option_map f p)
option_map_or f None p = refl
option_map_or f (Some x) p = refl

map_cond : {X Y : Type 0} (f : X → Y) (b : Bool) (x : X) → option_map f (cond b (Some x) None) ≡ cond b (Some (f x)) None
map_cond f true x = refl
map_cond f false x = refl

-- The last stored entry of a stage is the last of the index's.
pub stored_is : (b : PathStorage) (run : List Entry) (stage : ℕ) → option_map (index_entry b) (stored_of_stage run stage) ≡ entry_of_stage (index_entries b run) stage
stored_is b [] stage = refl
stored_is b (x ∷ run) stage =
    let says = index_entry b in
    let stored : Entry → Bool = λ e. stage_of_bits e.flags.0 == stage in
    let shown : IndexEntry → Bool = λ e. stage_of e == stage in
    ap (λ (ys : List Entry). option_map says (find stored ys)) (reverse_onto run x [])
    ∙ ap (option_map says) (find-append stored (reverse run) (x ∷ []))
    ∙ option_map_or says (find stored (reverse run)) (find stored (x ∷ []))
    ∙ ap (λ (o : Option IndexEntry). option_or o (option_map says (find stored (x ∷ [])))) (stored_is b run stage)
    ∙ ap (λ (o : Option IndexEntry). option_or (find shown (reverse (index_entries b run))) o) (map_cond says (stored x) x)
    ∙ sym (find-append shown (reverse (index_entries b run)) (says x ∷ []))
    ∙ sym (ap (λ (ys : List IndexEntry). find shown ys) (reverse_onto (index_entries b run) (says x) []))

shown_some : (b : PathStorage) (o : Option (Bor Entry)) → is_some (option_map (index_entry b) (option_copied o)) ≡ is_some o
shown_some b None = refl
shown_some b (Some x) = refl

-- The search for an entry of a stage, and whether it found one.
pub record IsStageFound (run : List Entry) (stage : ℕ) (o : Option (Bor Entry)) (found : Bool) : Type 0 where
  pub last : option_copied o ≡ stored_of_stage run stage
  pub some : found ≡ is_some o

module _ (b : PathStorage) (base ours theirs : Option (Bor Entry)) (x y z : Bool) where
  shown : (run : List Entry) (stage : ℕ) (o : Option (Bor Entry)) (found : Bool) → IsStageFound run stage o found → option_map (index_entry b) (option_copied o) ≡ entry_of_stage (index_entries b run) stage
  shown run stage o found f = ap (option_map (index_entry b)) f.last ∙ stored_is b run stage

  -- Whether a run has an entry of a stage.
  some_stage : (run : List Entry) (stage : ℕ) (o : Option (Bor Entry)) (found : Bool) → IsStageFound run stage o found → has_stage (index_entries b run) stage ≡ found
  some_stage run stage o found f = ap is_some (sym (shown run stage o found f)) ∙ shown_some b o ∙ sym f.some

  -- A run that names a conflict has an entry.
  last_after : (run : List IndexEntry) (c : Conflict) → conflict_of run ≡ Some c → length run - 1 + 1 ≡ length run
  last_after [] c h = cc
  last_after (e ∷ run) c h = omega arith

  module _ (run : List Entry) (f : IsStageFound run 1 base x) (g : IsStageFound run 2 ours y) (h : IsStageFound run 3 theirs z) where
    conflict_is : conflict_of (index_entries b run) ≡ conflict_named x y z
    conflict_is = rw (some_stage run 1 base x f, some_stage run 2 ours y g, some_stage run 3 theirs z h)

    pub IsConflict-none : (es : List IndexEntry) → index_entries b run ≡ es → (o : Option Conflict) → o ≡ conflict_named x y z → o ≡ None → conflict_of es ≡ None
    IsConflict-none es same o e n = ap conflict_of (sym same) ∙ conflict_is ∙ sym e ∙ n

    pub IsConflict-some : (es : List IndexEntry) → index_entries b run ≡ es → (c : Conflict) (o : Option Conflict) → o ≡ conflict_named x y z → o ≡ Some c → IsConflict (index_entry b) es (Some (c, length run - 1, base ∷ ours ∷ theirs ∷ []))
    IsConflict-some es same c o e n =
        let named : conflict_of (index_entries b run) ≡ Some c = conflict_is ∙ sym e ∙ n in
        let long : length run ≡ length (index_entries b run) = sym (length-map run (index_entry b)) in
        rw (← same, long) (named, last_after (index_entries b run) c named, rw (shown run 1 base x f, shown run 2 ours y g, shown run 3 theirs z h) refl)

module _ (x : IndexEntry) (xs : List IndexEntry) where
  -- A run has the stage of its first entry.
  stage_found : (s : ℕ) → stage_of x ≡ s → has_stage (x ∷ xs) s ≡ true
  stage_found s e =
      ap (λ (ys : List IndexEntry). is_some (find (λ (d : IndexEntry). stage_of d == s) ys)) (reverse_onto xs x [])
      ∙ ap is_some (find-append (λ (d : IndexEntry). stage_of d == s) (reverse xs) (x ∷ []))
      ∙ last_found (find (λ (d : IndexEntry). stage_of d == s) (reverse xs)) (cond (stage_of x == s) (Some x) None) (ap is_some (cond-true (stage_of x == s) (Some x) None (eq-eqb (stage_of x) s e)))
    where
      last_found : (o p : Option IndexEntry) → is_some p ≡ true → is_some (option_or o p) ≡ true
      last_found None p h = h
      last_found (Some y) p h = refl

none_named : (a b c : Bool) → conflict_named a b c ≡ None → (a ≡ false) × (b ≡ false) × (c ≡ false)
none_named true false false h = cc
none_named false true false h = cc
none_named true true false h = cc
none_named false false true h = cc
none_named true false true h = cc
none_named false true true h = cc
none_named true true true h = cc
none_named false false false h = (refl, refl, refl)

-- Entries of a stage name a conflict.
run_named : (x : IndexEntry) (xs : List IndexEntry) → 0 < stage_of x → stage_of x < 4 → conflict_of (x ∷ xs) ≡ None → ⊥
run_named x xs low high h =
    let none = none_named (has_stage (x ∷ xs) 1) (has_stage (x ∷ xs) 2) (has_stage (x ∷ xs) 3) h in
    elim (cases_eq (stage_of x) 1) [
      | inl e ↦ both_ways _ none.0 (stage_found x xs 1 e)
      | inr other ↦ elim (cases_eq (stage_of x) 2) [
        | inl e ↦ both_ways _ none.1 (stage_found x xs 2 e)
        | inr another ↦ both_ways _ none.2 (stage_found x xs 3 (omega arith))
      ]
    ]

pub always_named : (run : List IndexEntry) → 0 < length run → All (λ e. 0 < stage_of e) run → conflict_of run ≡ None → ⊥
always_named [] some staged = absurd (omega arith)
always_named (e ∷ run) some staged =
    run_named e run (All-head (λ (d : IndexEntry). 0 < stage_of d) e run staged) (omega arith)

pub run_staged : (path : List ℕ) (xs : List IndexEntry) → All (λ e. 0 < stage_of e) (take_while (is_in_run path) xs)
run_staged path xs =
    All-take_from (λ e. 0 < stage_of e) xs (prefix_len (is_in_run path) xs) (λ k d m n.
    let e = slice_index_or xs k d in
    let passes = and_parts (bytes_eq e.path path) (not (stage_of e == 0)) (prefix_len_passes (is_in_run path) xs k d m) in
    let some : stage_of e ≡ 0 → ⊥ = eqb-false (stage_of e) 0 (not-true (stage_of e == 0) passes.1) in
    omega (arith, some))

pub run_short : (p : IndexEntry → Bool) (n : ℕ) (xs : List IndexEntry) → length (take_while p (take n xs)) ≤ n
run_short p n xs =
    omega (arith, length-take (prefix_len p (take n xs)) (take n xs), length-take n xs)
