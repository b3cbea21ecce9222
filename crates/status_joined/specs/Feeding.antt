-- The reports of a list's entries to a collector.
use Rattle.std.specs.Prelude.{◌≡◌, ℕ, ◌<◌, Bool, IsTrue, List, [], ◌∷◌, ◌++◌, length, take, Result, Ok, Err, ⊤}
use Rattle.status_rewrites.specs.declared.rewrites.Rewritten.{Rewritten}
use Rattle.status_joined.specs.Items.{Item, Reported, IsReported}

-- One entry was reported; or nothing was, if the collector may fail.
abbrev pub IsReportedOne : {T U A E : Type 0} → Bool → Rewritten (Item T U) → List (Reported T U) → Result A E → List (Reported T U) → Type 0
IsReportedOne {T} {U} may_fail entry old (Ok _) new = (t : Reported T U) × IsReported entry t × (new ≡ old ++ t ∷ [])
IsReportedOne may_fail entry old (Err _) new = IsTrue may_fail × (new ≡ old)

-- There is one report for each entry, in the same order.
abbrev pub AreReported : {T U : Type 0} → List (Rewritten (Item T U)) → List (Reported T U) → Type 0
AreReported [] [] = ⊤
AreReported [] (t ∷ ts) = ⊥
AreReported (entry ∷ entries) [] = ⊥
AreReported (entry ∷ entries) (t ∷ ts) = IsReported entry t × AreReported entries ts

-- All entries were reported; or, if the collector may fail, the first n of them, and not all.
abbrev pub IsFed : {T U A E : Type 0} → Bool → List (Rewritten (Item T U)) → List (Reported T U) → Result A E → List (Reported T U) → Type 0
IsFed {T} {U} may_fail entries old (Ok _) new = (ts : List (Reported T U)) × AreReported entries ts × (new ≡ old ++ ts)
IsFed {T} {U} may_fail entries old (Err _) new =
    IsTrue may_fail × ((ts : List (Reported T U)) × AreReported entries ts × ((n : ℕ) × (n < length ts) × (new ≡ old ++ take n ts)))
