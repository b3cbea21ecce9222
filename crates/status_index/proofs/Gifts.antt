-- The contents that a reader may give whose content is known.
use Rattle.std.proofs.Common.{◌≡◌, ℕ, List, [], ◌++◌, take, inl, inr, refl, sym, ap, subst, ◌∙◌, Option, Some, None, Result, Ok, Err}
use Rattle.std.specs.Result.{IsErrAnd}
use Rattle.std.proofs.lemmas.List.{append_assoc, append-nil}
use Rattle.status_index.specs.declared.fault.Fault.{Fault}
use Rattle.status_index.specs.declared.fault.Fault.TheVariants.{Memory}
use Rattle.status_index.specs.Content.{Content, FaultOf, ReadKeeps}
use Rattle.status_index.specs.Given.{Follows, IsAllGiven, IsKnownOrCut, IsReadStep, MayGive, behind, no_bytes}

-- Contents are equal if their bytes and their ends are.
pub same_content : (a b : Content) → a.bytes ≡ b.bytes → a.fault ≡ b.fault → a ≡ b
same_content a b bytes fault = λ k. record { bytes = bytes k; fault = fault k }

-- Memory may run out at once.
pub cut_at_once : (known : Content) → IsKnownOrCut known (no_bytes (Some Memory))
cut_at_once known = inr (refl, (known.bytes, refl))

-- What may be given of the rest, may be given after the bytes before it.
pub given_behind : (old new : Content) (front : List ℕ) → old.bytes ≡ front ++ new.bytes → new.fault ≡ old.fault → Follows (IsKnownOrCut old) (IsKnownOrCut new) front
given_behind old new front bytes fault content (inl h) =
    inl (same_content (behind front content) old (ap (λ (c : Content). front ++ c.bytes) h ∙ sym bytes) (ap (λ (c : Content). c.fault) h ∙ fault))
given_behind old new front bytes fault content (inr h) =
    inr (h.0, (h.1.0, bytes ∙ ap (λ (rest : List ℕ). front ++ rest) h.1.1 ∙ sym (append_assoc front content.bytes h.1.0)))

-- A fault that comes now may be given.
given_fault : (old : Content) (f : Fault) → FaultOf old f → IsKnownOrCut old (no_bytes (Some f))
given_fault old f (inl h) = inr (ap (λ (x : Fault). Some x) h, (old.bytes, refl))
given_fault old f (inr h) = inl (same_content (no_bytes (Some f)) old (sym h.0) (sym h.1))

-- A read of a known content is one of what may be given.
pub known_step : (old new : Content) (r : Result ℕ Fault) (buffer : List ℕ) → ReadKeeps (Some old) (Some new) r buffer → IsReadStep (IsKnownOrCut old) (IsKnownOrCut new) r buffer
known_step old new (Ok n) buffer h =
    (given_behind old new (take n buffer) h.0 h.1, λ none room. let end = h.2 none room in inl (same_content (no_bytes None) old (sym end.0) (sym end.1)))
known_step old new (Err f) buffer h =
    let same : new ≡ old = some_same h.1 in
    (given_behind old new [] (ap (λ (c : Content). c.bytes) (sym same)) (ap (λ (c : Content). c.fault) same), given_fault old f h.0)
  where
    some_same : Some new ≡ Some old → new ≡ old
    some_same e = ap value e
      where
        value : Option Content → Content
        value (Some c) = c
        value None = new

-- Reading that runs out of memory after some bytes appended those of a content that the reader may give.
pub all_given_short : (may later : MayGive) (before now after done : List ℕ) (r : Result (Unit {0}) Fault) → IsErrAnd r (λ f. f ≡ Memory) → now ≡ before ++ done → after ≡ now
    → Follows may later done → later (no_bytes (Some Memory)) → IsAllGiven may before after r
all_given_short may later before now after done (Ok _) is was same follows ends = absurd is
all_given_short may later before now after done (Err f) is was same follows ends = (
  done ++ [],
  same ∙ was ∙ ap (λ (x : List ℕ). before ++ x) (sym (append-nil done)),
  subst (λ (x : Fault). may (record { bytes = done ++ []; fault = Some x })) (sym is) (follows (no_bytes (Some Memory)) ends),
)
