-- A map of planted reads as a finite map, and the first of them.
use Rattle.std.proofs.Common.{◌≡◌, ℕ, cond, List, [], ◌∷◌, Some, None, slice_get, length, refl, sym, ap, ◌∙◌, arith}
use Rattle.std.specs.List.{AllByRecursion}
use Rattle.std.specs.List.Sorted.{IsStrictlySortedBy}
use Rattle.std.specs.Ordering.{nat_cmp, is_eq, eq_by_cmp}
use Rattle.std.specs.declared.cmp.Ordering.{Ordering}
use Rattle.std.specs.declared.cmp.Ordering.TheVariants.{Less}
use Rattle.std.specs.Cmp.{nat_cmp_total, eq_by_cmp_equiv}
use Rattle.std.specs.FinMap as reads
use Rattle.std.specs.Map.{keys_of, lookup}
use Rattle.std.proofs.lemmas.Map.Keys.{sorted_head, sorted_tail}
use Rattle.status_index.specs.declared.fault.Fault.{Fault}

none_of_length : {A : Type 0} (es : List A) → length es ≡ 0 → es ≡ []
none_of_length [] h = refl
none_of_length (e ∷ es) h = absurd (omega arith)

-- an empty map has no entries
pub entries-empty : {K : Type 0} (R : K → K → Ordering) (X : Type 0) → reads.entries (reads.empty {X = X} {R = R}) ≡ []
entries-empty R X = none_of_length _ (sym (reads.len-entries (reads.empty {X = X} {R = R})) ∙ reads.len-empty R X)

-- if no read is planted, there is no first one
pub none_first : slice_get (reads.entries (reads.empty {X = Fault} {R = nat_cmp})) 0 ≡ None
none_first = ap (λ es. slice_get es 0) (entries-empty nat_cmp Fault)

-- the entries of a map that was made of entries in order
entries-from : (es : List (ℕ × Fault)) → IsStrictlySortedBy nat_cmp (keys_of es) → reads.entries (reads.from_entries {R = nat_cmp} es) ≡ es
entries-from [] ordered = entries-empty nat_cmp Fault
entries-from (e ∷ es) ordered =
    reads.entries-insert nat_cmp_total (reads.from_entries es) e.0 e.1
    ∙ ap (reads.put nat_cmp e.0 e.1) (entries-from es (sorted_tail nat_cmp e.0 (keys_of es) ordered))
    ∙ first_put es (sorted_head nat_cmp e.0 (keys_of es) ordered)
  where
    first_put : (fs : List (ℕ × Fault)) → AllByRecursion (λ y. nat_cmp e.0 y ≡ Less) (keys_of fs) → reads.put nat_cmp e.0 e.1 fs ≡ e ∷ fs
    first_put [] all = refl
    first_put (f ∷ fs) all = rw all.0 refl

-- the first of the entries is the first read
pub first_read : (es : List (ℕ × Fault)) (m : reads.FinMap nat_cmp Fault) → IsStrictlySortedBy nat_cmp (keys_of es) → reads.from_entries es ≡ m
    → slice_get es 0 ≡ slice_get (reads.entries m) 0
first_read es m ordered is = ap (λ xs. slice_get xs 0) (sym (entries-from es ordered)) ∙ ap (λ (n : reads.FinMap nat_cmp Fault). slice_get (reads.entries n) 0) is

find-read : (es : List (ℕ × Fault)) (q : ℕ) → reads.find nat_cmp q es ≡ lookup (λ k. is_eq (nat_cmp q k)) es
find-read [] q = refl
find-read (e ∷ es) q = ap (cond (is_eq (nat_cmp q e.0)) (Some e.1)) (find-read es q)

get-read : (es : List (ℕ × Fault)) (q : ℕ) → reads.get (reads.from_entries {R = nat_cmp} es) q ≡ lookup (λ k. is_eq (nat_cmp q k)) es
get-read es q = reads.get-from_entries nat_cmp_total es q ∙ find-read es q

-- the planted reads after a fault was planted at one
pub reads-insert : (old new : List (ℕ × Fault)) (m : reads.FinMap nat_cmp Fault) (k : ℕ) (v : Fault) → reads.from_entries old ≡ m
    → ((q : ℕ) → lookup (λ x. is_eq (nat_cmp q x)) new ≡ cond (is_eq (nat_cmp k q)) (Some v) (lookup (λ x. is_eq (nat_cmp q x)) old))
    → reads.from_entries new ≡ reads.insert m k v
reads-insert old new m k v was updated =
    reads.same_map nat_cmp_total reads.nat_cmp-IsAntisymmetric _ _ (λ q. get-read new q ∙ updated q
    ∙ ap (λ b. cond b (Some v) (lookup (λ x. is_eq (nat_cmp q x)) old)) ((eq_by_cmp_equiv nat_cmp_total).symm k q)
    ∙ ap (cond (eq_by_cmp nat_cmp q k) (Some v)) (sym (get-read old q))
    ∙ sym (reads.get-insert nat_cmp_total (reads.from_entries old) k v q))
    ∙ ap (λ (n : reads.FinMap nat_cmp Fault). reads.insert n k v) was
