-- Over a cut the entries of one side don't change the verdict of an entry of the other.
use Rattle.std.proofs.Common.{◌≡◌, ◌∙◌, refl, sym, ap, ℕ, ◌<◌, Bool, true, false, not, ◌&&◌, ◌||◌, cond, List, [], ◌∷◌, ◌++◌, length, take, drop, get_or, Option, None, Result, Ok, if◌then◌else◌, nat_lt, nat_le, ◌==◌}
use Rattle.std.specs.List.{All, filter}
use Rattle.std.proofs.lemmas.Bool.{both_ways, false_from_ne_true}
use Rattle.std.proofs.lemmas.List.{append-nil, take-append-drop}
use Rattle.std.proofs.lemmas.List.Elements.{All-head, All-tail, All-weaker, filter-append}
use Rattle.std.proofs.lemmas.List.Folds.{list_any-append, list_any_none}
use Rattle.std.proofs.lemmas.Slice.Eq.{bytes_eq-Decides}
use Rattle.status_index.specs.Entries.{IndexEntry, stage_of}
use Rattle.status_compare.specs.declared.error.Error.{Error}
use Rattle.status_call.specs.declared.index_as_worktree.types.EntryStatus.{EntryStatus}
use Rattle.status_call.specs.Considered.{is_skipped, is_over, same_path, stages_from, takes_over}
use Rattle.status_call.specs.Laws.{CutLaw}
use Rattle.status_call.specs.Pieces.{IsCut}
use Rattle.status_call.specs.Query.{Query}
use Rattle.status_call.specs.Records.{conflict_status, verdict}
use Rattle.status_call.specs.Status.{status_of}

filter_none : {X : Type 0} (p : X → Bool) (xs : List X) → All (λ x. p x ≡ false) xs → filter p xs ≡ []
filter_none p [] h = refl
filter_none p (x ∷ xs) h = ap (λ (b : Bool). cond b (x ∷ filter p xs) (filter p xs)) (All-head (λ y. p y ≡ false) x xs h) ∙ filter_none p xs (All-tail (λ y. p y ≡ false) x xs h)

or_none : (b c : Bool) → c ≡ false → (b || c) ≡ b
or_none true c h = refl
or_none false c h = h

and_second : (a b c d : Bool) → b ≡ false → (a && b && c && d) ≡ false
and_second true true c d h = cc
and_second true false c d h = refl
and_second false b c d h = refl

pub same_path_symm : (a b : IndexEntry) → same_path a b ≡ false → same_path b a ≡ false
same_path_symm a b h =
    false_from_ne_true (same_path b a) (λ t. both_ways (same_path a b) h ((bytes_eq-Decides a.path b.path).1 (sym ((bytes_eq-Decides b.path a.path).0 t))))

-- None of these entries has e's path.
abbrev pub AreOthers : IndexEntry → List IndexEntry → Type 0
AreOthers e xs = All (λ r. same_path r e ≡ false) xs

stages_none : (e : IndexEntry) (xs : List IndexEntry) → AreOthers e xs → stages_from xs e ≡ []
stages_none e xs h =
    filter_none (λ d. same_path d e && nat_le (stage_of e) (stage_of d)) xs
    (All-weaker (λ r. same_path r e ≡ false) (λ d. (same_path d e && nat_le (stage_of e) (stage_of d)) ≡ false)
    (λ d k. ap (λ (b : Bool). b && nat_le (stage_of e) (stage_of d)) k) xs h)

stages_append : (e : IndexEntry) (xs ys : List IndexEntry) → stages_from (xs ++ ys) e ≡ stages_from xs e ++ stages_from ys e
stages_append e xs ys = filter-append (λ d. same_path d e && nat_le (stage_of e) (stage_of d)) xs ys

module _ {T U : Type 0} (q : Query T U) where
  over_none : (e : IndexEntry) (xs : List IndexEntry) → AreOthers e xs → is_over q xs e ≡ false
  over_none e xs h =
      list_any_none (λ d. takes_over q d e) xs
      (All-weaker (λ r. same_path r e ≡ false) (λ d. takes_over q d e ≡ false)
      (λ d k. and_second (not (is_skipped q d)) (same_path d e) (nat_lt 0 (stage_of d)) (nat_lt (stage_of d) (stage_of e)) k) xs h)

  over_append : (e : IndexEntry) (xs ys : List IndexEntry) → is_over q (xs ++ ys) e ≡ (is_over q xs e || is_over q ys e)
  over_append e xs ys = list_any-append (λ d. takes_over q d e) xs ys

  -- The verdict of e, by whether it is over and by the stages from its own.
  abbrev verdict_by : IndexEntry → Bool → List IndexEntry → Result (Option (EntryStatus T U)) Error
  verdict_by e over stages =
      if is_skipped q e || over then Ok None
      else (if stage_of e == 0 then status_of q e else Ok (conflict_status (stages)))

  verdict_same : (xs ys : List IndexEntry) (e : IndexEntry) → is_over q xs e ≡ is_over q ys e → stages_from xs e ≡ stages_from ys e → verdict q xs e ≡ verdict q ys e
  verdict_same xs ys e over stages = ap (λ (b : Bool). verdict_by e b (stages_from xs e)) over ∙ ap (λ (l : List IndexEntry). verdict_by e (is_over q ys e) l) stages

  pub verdict_left : (e : IndexEntry) (xs ys : List IndexEntry) → AreOthers e ys → verdict q (xs ++ ys) e ≡ verdict q xs e
  verdict_left e xs ys h =
      verdict_same (xs ++ ys) xs e
      (over_append e xs ys ∙ or_none (is_over q xs e) (is_over q ys e) (over_none e ys h))
      (stages_append e xs ys ∙ (ap (λ (l : List IndexEntry). stages_from xs e ++ l) (stages_none e ys h) ∙ append-nil (stages_from xs e)))

  pub verdict_right : (e : IndexEntry) (xs ys : List IndexEntry) → AreOthers e xs → verdict q (xs ++ ys) e ≡ verdict q ys e
  verdict_right e xs ys h =
      verdict_same (xs ++ ys) ys e
      (over_append e xs ys ∙ ap (λ (b : Bool). b || is_over q ys e) (over_none e xs h))
      (stages_append e xs ys ∙ ap (λ (l : List IndexEntry). l ++ stages_from ys e) (stages_none e xs h))

others_right : (es : List IndexEntry) (k i : ℕ) (d : IndexEntry) → IsCut es k → i < length (take k es) → AreOthers (get_or (take k es) i d) (drop k es)
others_right es k i d cut h = λ j c l. same_path_symm (get_or (take k es) i d) (get_or (drop k es) j c) (cut i d h j c l)

others_left : (es : List IndexEntry) (k i : ℕ) (d : IndexEntry) → IsCut es k → i < length (drop k es) → AreOthers (get_or (drop k es) i d) (take k es)
others_left es k i d cut h = λ j c l. cut j c l i d h

pub cut_law : {T U : Type 0} (q : Query T U) → CutLaw q
cut_law q es k cut = (
  λ i d h. ap (λ (l : List IndexEntry). verdict q l (get_or (take k es) i d)) (sym (take-append-drop k es)) ∙ verdict_left q (get_or (take k es) i d) (take k es) (drop k es) (others_right es k i d cut h),
  λ i d h. ap (λ (l : List IndexEntry). verdict q l (get_or (drop k es) i d)) (sym (take-append-drop k es)) ∙ verdict_right q (get_or (drop k es) i d) (take k es) (drop k es) (others_left es k i d cut h),
)
