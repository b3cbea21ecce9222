-- Findings that were reported to a collector, joined.
use Rattle.std.proofs.Common.{◌≡◌, refl, sym, ap, ◌∙◌, subst, length-append, ℕ, ◌≤◌, List, [], ◌∷◌, ◌++◌, length, map, take, All, arith, append_assoc}
use Rattle.std.proofs.lemmas.List.{map-append, append-nil}
use Rattle.std.proofs.lemmas.List.Elements.{All-append, All-nil, All-head, All-tail}
use Rattle.std.proofs.Math.Seq.{take-append_seam}
use Rattle.status_call.specs.declared.index_as_worktree.types.Finding.{Finding}
use Rattle.status_call.specs.Reporting.{Reports}
use Rattle.status_call.specs.Visits.{Visit, finding_of}

module _ {T U : Type 0} (faithful : Visit T U → Type 0) where
  -- Nothing was reported.
  pub reports_none : (old : List (Visit T U)) → Reports faithful [] old old
  reports_none old = record { more = []; grew = sym (append-nil old); faithful_all = All-nil faithful; reported = refl }

  -- These findings were reported, and then those.
  pub reports_more : (xs ys : List (Finding T U)) (a b c : List (Visit T U)) → Reports faithful xs a b → Reports faithful ys b c → Reports faithful (xs ++ ys) a c
  reports_more xs ys a b c f g = record {
    more = f.more ++ g.more;
    grew = g.grew ∙ ap (λ (v : List (Visit T U)). v ++ g.more) f.grew ∙ append_assoc a f.more g.more;
    faithful_all = All-append faithful f.more g.more f.faithful_all g.faithful_all;
    reported = map-append finding_of f.more g.more ∙ ap (λ (l : List (Finding T U)). l ++ map finding_of g.more) f.reported ∙ ap (λ (l : List (Finding T U)). xs ++ l) g.reported;
  }

middle_of : {X : Type 0} (P : X → Type 0) (xs : List X) (x : X) (ys : List X) → All P (xs ++ x ∷ ys) → P x
middle_of P [] x ys h = All-head P x ys h
middle_of P (y ∷ xs) x ys h = middle_of P xs x ys (All-tail P y (xs ++ x ∷ ys) h)

-- A property of all elements holds of one in their midst.
pub all_middle : {X : Type 0} (P : X → Type 0) (xs : List X) (x : X) (rest ys all : List X) → rest ≡ x ∷ ys → xs ++ rest ≡ all → All P all → P x
all_middle {X} P xs x rest ys all e f h = middle_of P xs x ys (rw (← e, f) h)

-- The first of all were reported.
pub fed_front : {T U : Type 0} (faithful : Visit T U → Type 0) (xs rest all : List (Finding T U)) (old new : List (Visit T U))
    → xs ++ rest ≡ all → Reports faithful xs old new → (n : ℕ) × (n ≤ length all) × Reports faithful (take n all) old new
fed_front faithful xs rest all old new e h =
    let fits : length xs ≤ length all = omega (arith, length-append xs rest, ap length e) in
    (length xs, fits, rw (← e, take-append_seam) h)

pub nil_of : {X : Type 0} (xs : List X) → length xs ≡ 0 → xs ≡ []
nil_of [] h = refl
nil_of (x ∷ xs) h = absurd (omega arith)

-- All were reported.
pub fed_all : {T U : Type 0} (faithful : Visit T U → Type 0) (xs rest all : List (Finding T U)) (old new : List (Visit T U))
    → xs ++ rest ≡ all → length rest ≡ 0 → Reports faithful xs old new → Reports faithful all old new
fed_all {T} {U} faithful xs rest all old new e n h =
    subst (λ l. Reports faithful l old new) (sym (append-nil xs) ∙ ap (λ (l : List (Finding T U)). xs ++ l) (sym (nil_of rest n)) ∙ e) h

-- The first of all were reported, and nothing after them.
pub fed_until : {T U : Type 0} (faithful : Visit T U → Type 0) (xs rest all : List (Finding T U)) (old new after : List (Visit T U))
    → xs ++ rest ≡ all → Reports faithful xs old new → after ≡ new → (n : ℕ) × (n ≤ length all) × Reports faithful (take n all) old after
fed_until faithful xs rest all old new after e h same = fed_front faithful xs rest all old after e (rw same h)
