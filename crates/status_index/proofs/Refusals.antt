-- When an entry may be appended to an index, and why the refusal of a front is one of the longer list.
use Rattle.std.proofs.Common.{◌≡◌, ◌≢◌, refl, sym, ap, ◌∙◌, ℕ, ◌+◌, ◌-◌, ◌<◌, inl, inr, Bool, true, false, not, List, [], ◌∷◌, ◌++◌, length, map, take, drop, slice_index_or, arith}
use Rattle.std.specs.Cmp.{IsTotalOrder}
use Rattle.std.specs.Ordering.{is_ge}
use Rattle.std.specs.declared.cmp.Ordering.{Ordering}
use Rattle.std.specs.declared.cmp.Ordering.TheVariants.{Less, Equal, Greater}
use Rattle.std.proofs.lemmas.Bool.{cases_eq}
use Rattle.std.proofs.lemmas.Cmp.{nat_cmp_total, nat_list_cmp_total, on_total, then_total}
use Rattle.std.proofs.lemmas.List.{length-map, length_push, length-append, get_or-map, get_or_push, get_or_append_left, take_at, take-append-le, take-append-drop, take_more, map-id, map-append, map_push}
use Rattle.std.proofs.lemmas.List.Elements.{All-push}
use Rattle.std.proofs.lemmas.List.Quantifiers.{all_pairs_push}
use Rattle.status_index.specs.declared.entry.Entry.{Entry}
use Rattle.status_index.specs.declared.entry.NewEntry.{NewEntry}
use Rattle.status_index.specs.declared.entry.PathStorage.{PathStorage}
use Rattle.status_index.specs.declared.state.IndexError.{IndexError}
use Rattle.status_index.specs.declared.state.IndexError.TheVariants.{EmptyPath, NotAscending, MixedHash, Memory}
use denote.Enum.Bare.{sameb}
use Rattle.status_index.specs.contracts.id.HashKind.{the_type}
use Rattle.status_index.specs.declared.id.HashKind.{HashKind}
use Rattle.status_index.specs.declared.id.HashKind.TheVariants.{Sha1, Sha256}
use Rattle.status_index.specs.BlobId.{id_kind}
use Rattle.status_index.specs.FlagBits.{stage_of_bits}
use Rattle.status_index.specs.Entries.{IndexEntry, IsIndex, IsFirstAt, IsUnnamed, IsOutOfOrder, IsOfOtherKind, IsRefusal, entry_cmp, new_entry, index_entry, index_entries}

entry_order : IsTotalOrder entry_cmp
entry_order = then_total (on_total (λ (e : IndexEntry). e.path) nat_list_cmp_total) (on_total (λ (e : IndexEntry). stage_of_bits e.flags.0) nat_cmp_total)

pub Less-unless_ge : (o : Ordering) → is_ge o ≡ false → o ≡ Less
Less-unless_ge Less h = refl
Less-unless_ge Equal h = cc
Less-unless_ge Greater h = cc

pub apart-from_ne : (a b : HashKind) (r : Bool) → r ≡ not (sameb the_type a b) → r ≡ true → a ≡ b → ⊥
apart-from_ne Sha1 Sha1 r h e same = cc
apart-from_ne Sha1 Sha256 r h e same = cc
apart-from_ne Sha256 Sha1 r h e same = cc
apart-from_ne Sha256 Sha256 r h e same = cc

pub same-from_ne : (a b : HashKind) (r : Bool) → r ≡ not (sameb the_type a b) → r ≡ false → a ≡ b
same-from_ne Sha1 Sha1 r h e = refl
same-from_ne Sha1 Sha256 r h e = cc
same-from_ne Sha256 Sha1 r h e = cc
same-from_ne Sha256 Sha256 r h e = refl

-- x is the last element of a list.
pub record IsLast (es : List IndexEntry) (x : IndexEntry) : Type 0 where
  pub some : 0 < length es
  pub at_end : (d : IndexEntry) → slice_index_or es (length es - 1) d ≡ x

pub IsLast-listed : (b : PathStorage) (es : List Entry) (x : Entry) → 0 < length es → ((d : Entry) → x ≡ slice_index_or es (length es - 1) d) → IsLast (index_entries b es) (index_entry b x)
IsLast-listed b es x some h =
    let long : length (index_entries b es) ≡ length es = length-map es (index_entry b) in
    record {
      some = omega arith;
      at_end = λ d.
          rw (long, get_or-map (index_entry b) es (length es - 1) x d (omega arith))
          (ap (index_entry b) (sym (h x)));
    }

below_next : (es : List IndexEntry) (x y : IndexEntry) → IsIndex es → IsLast es x → entry_cmp x y ≡ Less → (k : ℕ) (d : IndexEntry) → k < length es → entry_cmp (slice_index_or es k d) y ≡ Less
below_next es x y h last less k d l =
    elim (cases_eq k (length es - 1)) [
      | inl e ↦ rw (e, last.at_end d) less
      | inr apart ↦
          let up : entry_cmp (slice_index_or es k d) x ≡ Less = rw (last.at_end d) at (h.ascending k (length es - 1) d (omega arith) (omega (arith, last.some))) in
          entry_order.trans (slice_index_or es k d) x y up less
    ]

same_kind : (es : List IndexEntry) (x : IndexEntry) → IsIndex es → IsLast es x → (k : ℕ) (d : IndexEntry) → k < length es → id_kind (slice_index_or es k d).id ≡ id_kind x.id
same_kind es x h last k d l =
    elim (cases_eq k (length es - 1)) [
      | inl e ↦ rw (e, last.at_end d)
      | inr apart ↦ rw (last.at_end d) at (h.one_kind k (length es - 1) d (omega arith) (omega (arith, last.some)))
    ]

pub IsIndex-push : (es : List IndexEntry) (x y : IndexEntry) → IsIndex es → IsLast es x → 0 < length y.path → entry_cmp x y ≡ Less → id_kind x.id ≡ id_kind y.id → IsIndex (es ++ y ∷ [])
IsIndex-push es x y h last named less kind = record {
  named = All-push (λ (e : IndexEntry). 0 < length e.path) es y h.named named;
  ascending = all_pairs_push (λ a b. entry_cmp a b ≡ Less) es y h.ascending (below_next es x y h last less);
  one_kind = all_pairs_push (λ a b. id_kind a.id ≡ id_kind b.id) es y h.one_kind (λ k d l. same_kind es x h last k d l ∙ kind);
}

-- The first position that may be refused is the one after a valid index.
module _ (es : List IndexEntry) (n : ℕ) (y : IndexEntry) (long : n ≡ length es) (h : IsIndex es) where
  IsFirstAt-push : IsFirstAt (es ++ y ∷ []) n
  IsFirstAt-push = (omega (arith, length_push es y), rw (take_at es (y ∷ []) n (sym long)) h)

  named-push : (y.path ≡ [] → ⊥) → IsUnnamed (es ++ y ∷ []) n → ⊥
  named-push named empty = named (rw (get_or_push es y y n (sym long)) at (empty y))

  last_read : (x : IndexEntry) → IsLast es x → (d : IndexEntry) → slice_index_or (es ++ y ∷ []) (n - 1) d ≡ x
  last_read x last d = get_or_append_left es (y ∷ []) d (n - 1) (omega (arith, last.some)) ∙ ap (λ k. slice_index_or es (k - 1) d) long ∙ last.at_end d

  IsOutOfOrder-push : (x : IndexEntry) → IsLast es x → entry_cmp x y ≢ Less → IsOutOfOrder (es ++ y ∷ []) n
  IsOutOfOrder-push x last high =
      (omega (arith, last.some), λ d. rw (last_read x last d, get_or_push es y d n (sym long)) high)

  ascends-push : (x : IndexEntry) → IsLast es x → entry_cmp x y ≡ Less → IsOutOfOrder (es ++ y ∷ []) n → ⊥
  ascends-push x last less high =
      (rw (last_read x last y, get_or_push es y y n (sym long)) at (high.1 y)) less

  IsOfOtherKind-push : (x : IndexEntry) → IsLast es x → (id_kind x.id ≡ id_kind y.id → ⊥) → IsOfOtherKind (es ++ y ∷ []) n
  IsOfOtherKind-push x last other =
      λ d. rw (get_or_push es y d n (sym long), get_or_append_left es (y ∷ []) d 0 last.some, same_kind es x h last 0 d last.some) (λ e. other (sym e))

  pub NotAscending-push : (x : IndexEntry) → IsLast es x → (y.path ≡ [] → ⊥) → entry_cmp x y ≢ Less → IsRefusal (es ++ y ∷ []) (NotAscending n)
  NotAscending-push x last named high = (IsFirstAt-push, named-push named, IsOutOfOrder-push x last high)

  pub MixedHash-push : (x : IndexEntry) → IsLast es x → (y.path ≡ [] → ⊥) → entry_cmp x y ≡ Less → (id_kind x.id ≡ id_kind y.id → ⊥) → IsRefusal (es ++ y ∷ []) (MixedHash n)
  MixedHash-push x last named less other =
      (IsFirstAt-push, named-push named, ascends-push x last less, IsOfOtherKind-push x last other)

-- A refusal of a front is a refusal of the whole list.
module _ (es rest : List IndexEntry) (at : ℕ) (l : at < length es) where
  front_read : (k : ℕ) (d : IndexEntry) → k < length es → slice_index_or (es ++ rest) k d ≡ slice_index_or es k d
  front_read k d m = get_or_append_left es rest d k m

  IsFirstAt-more : IsFirstAt es at → IsFirstAt (es ++ rest) at
  IsFirstAt-more h = (omega (arith, length-append es rest), rw (take-append-le at es rest (omega arith)) h.1)

  IsUnnamed-more : IsUnnamed es at → IsUnnamed (es ++ rest) at
  IsUnnamed-more h d = rw (front_read at d l) (h d)

  IsUnnamed-less : IsUnnamed (es ++ rest) at → IsUnnamed es at
  IsUnnamed-less h d = rw (front_read at d l) at (h d)

  IsOutOfOrder-more : IsOutOfOrder es at → IsOutOfOrder (es ++ rest) at
  IsOutOfOrder-more h = (h.0, λ d. rw (front_read (at - 1) d (omega arith), front_read at d l) (h.1 d))

  IsOutOfOrder-less : IsOutOfOrder (es ++ rest) at → IsOutOfOrder es at
  IsOutOfOrder-less h = (h.0, λ d. rw (front_read (at - 1) d (omega arith), front_read at d l) at (h.1 d))

  IsOfOtherKind-more : IsOfOtherKind es at → IsOfOtherKind (es ++ rest) at
  IsOfOtherKind-more h d = rw (front_read at d l, front_read 0 d (omega arith)) (h d)

pub IsRefusal-more : (es rest : List IndexEntry) (error : IndexError) → IsRefusal es error → IsRefusal (es ++ rest) error
IsRefusal-more es rest (EmptyPath at) h =
    let l = h.0.0 in
    (IsFirstAt-more es rest at l h.0, IsUnnamed-more es rest at l h.1)
IsRefusal-more es rest (NotAscending at) h =
    let l = h.0.0 in
    (IsFirstAt-more es rest at l h.0, λ u. h.1 (IsUnnamed-less es rest at l u), IsOutOfOrder-more es rest at l h.2)
IsRefusal-more es rest (MixedHash at) h =
    let l = h.0.0 in
    (IsFirstAt-more es rest at l h.0, λ u. h.1 (IsUnnamed-less es rest at l u), λ u. h.2 (IsOutOfOrder-less es rest at l u), IsOfOtherKind-more es rest at l h.3)
IsRefusal-more es rest Memory h = tt

pub listed_in : (es : List IndexEntry) (k : ℕ) → k < length es → IndexEntry
listed_in [] k h = absurd (omega arith)
listed_in (e ∷ es) k h = e

-- A valid index is refused only for memory.
pub Memory-from_index : (es : List IndexEntry) (error : IndexError) → IsIndex es → IsRefusal es error → error ≡ Memory
Memory-from_index es (EmptyPath at) h refused =
    let d = listed_in es at refused.0.0 in
    absurd (omega (arith, h.named at d refused.0.0, ap length (refused.1 d)))
Memory-from_index es (NotAscending at) h refused =
    let d = listed_in es at refused.0.0 in
    absurd (refused.2.1 d (h.ascending (at - 1) at d (omega (arith, refused.2.0)) refused.0.0))
Memory-from_index es (MixedHash at) h refused =
    let d = listed_in es at refused.0.0 in
    elim (cases_eq at 0) [
      | inl e ↦ absurd (refused.3 d (ap (λ k. id_kind (slice_index_or es k d).id) e))
      | inr apart ↦ absurd (refused.3 d (sym (h.one_kind 0 at d (omega arith) refused.0.0)))
    ]
Memory-from_index es Memory h refused = refl

-- The new entries, cut after the current one.
pub new_entry-cut : (xs all : List NewEntry) (x : NewEntry) → map (λ (y : NewEntry). y) xs ≡ take (length xs) all → (length xs < length all) × (x ≡ slice_index_or all (length xs) x) → map new_entry all ≡ (map new_entry xs ++ new_entry x ∷ []) ++ map new_entry (drop (length xs + 1) all)
new_entry-cut xs all x front turn =
    let before : xs ≡ take (length xs) all = sym (map-id xs) ∙ front in
    let more : take (length xs + 1) all ≡ xs ++ x ∷ [] = take_more all (length xs) x turn.0 ∙ ap (λ (ys : List NewEntry). ys ++ slice_index_or all (length xs) x ∷ []) (sym before) ∙ ap (λ (y : NewEntry). xs ++ y ∷ []) (sym turn.1) in
    let whole : all ≡ (xs ++ x ∷ []) ++ drop (length xs + 1) all = sym (take-append-drop (length xs + 1) all) ∙ ap (λ (ys : List NewEntry). ys ++ drop (length xs + 1) all) more in
    ap (map new_entry) whole ∙ map-append new_entry (xs ++ x ∷ []) (drop (length xs + 1) all) ∙ ap (λ (ys : List IndexEntry). ys ++ map new_entry (drop (length xs + 1) all)) (map_push new_entry xs x)
