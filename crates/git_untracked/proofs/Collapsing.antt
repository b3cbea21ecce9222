-- The line of a folder in place of the lines that it replaces.
use Rattle.std.proofs.Common.{◌≡◌, ◌∙◌, ℕ, ◌<◌, ◌≤◌, Bool, true, false, List, [], ◌∷◌, ◌++◌, length, take, refl, sym, ap, append-nil, length-append, arith}
use Rattle.std.proofs.Math.Seq.{take-append_seam}
use Rattle.git_untracked.specs.Lines.{Lines, and_lines, collapsed, collapsed_from, no_lines, own_line}

abbrev pub both : List (List ℕ) → List (List ℕ) → Lines
both u i = record { untracked = u; ignored = i }

pub both_same : (u v i j : List (List ℕ)) → u ≡ v → i ≡ j → both u i ≡ both v j
both_same u v i j e f = ap (λ (x : List (List ℕ)). both x i) e ∙ ap (λ (y : List (List ℕ)). both v y) f

-- A list is cut off after its front.
cut_front : (front back : List (List ℕ)) (n : ℕ) → n ≡ length front → take n (front ++ back) ≡ front
cut_front front back n e = ap (λ (k : ℕ). take k (front ++ back)) e ∙ take-append_seam front back

some_more : (front back whole : List (List ℕ)) (n : ℕ) → whole ≡ front ++ back → n ≡ length front → n < length whole → 0 < length back
some_more front back whole n w e l = omega (arith, length-append front back, ap (λ (xs : List (List ℕ)). length xs) w, e, l)

none_more : (front back whole : List (List ℕ)) (n : ℕ) → whole ≡ front ++ back → n ≡ length front → length whole ≤ n → length back ≡ 0
none_more front back whole n w e l = omega (arith, length-append front back, ap (λ (xs : List (List ℕ)). length xs) w, e, l)

module _ (line : Bool → Lines) where
  with_untracked : (u i : List (List ℕ)) → 0 < length u → collapsed_from line u i ≡ and_lines (line false) (both [] i)
  with_untracked [] i some = absurd (omega (arith, some))
  with_untracked (path ∷ u) i some = refl

  with_ignored : (u i : List (List ℕ)) → length u ≡ 0 → 0 < length i → collapsed_from line u i ≡ line true
  with_ignored [] [] none some = absurd (omega (arith, some))
  with_ignored [] (path ∷ i) none some = refl
  with_ignored (path ∷ u) i none some = absurd (omega (arith, none))

  with_none : (u i : List (List ℕ)) → length u ≡ 0 → length i ≡ 0 → collapsed_from line u i ≡ no_lines
  with_none [] [] none empty = refl
  with_none [] (path ∷ i) none empty = absurd (omega (arith, empty))
  with_none (path ∷ u) i none empty = absurd (omega (arith, none))

no_list : (xs : List (List ℕ)) → length xs ≡ 0 → xs ≡ []
no_list [] e = refl
no_list (x ∷ xs) e = absurd (omega (arith, e))

module _ (has : Bool) (folder : List ℕ) where
  -- The line of an untracked folder is no ignored one.
  plain : own_line has folder false ≡ both (own_line has folder false).untracked []
  plain = plain_by has
    where
      plain_by : (b : Bool) → own_line b folder false ≡ both (own_line b folder false).untracked []
      plain_by true = refl
      plain_by false = refl

  module _ (before inner now : Lines) (grown : now ≡ and_lines before inner) (u i : ℕ) (ends_u : u ≡ length before.untracked) (ends_i : i ≡ length before.ignored) where
    now_u : now.untracked ≡ before.untracked ++ inner.untracked
    now_u = ap (λ (l : Lines). l.untracked) grown

    now_i : now.ignored ≡ before.ignored ++ inner.ignored
    now_i = ap (λ (l : Lines). l.ignored) grown

    cut_u : take u now.untracked ≡ before.untracked
    cut_u = ap (λ (xs : List (List ℕ)). take u xs) now_u ∙ cut_front before.untracked inner.untracked u ends_u

    cut_i : take i now.ignored ≡ before.ignored
    cut_i = ap (λ (xs : List (List ℕ)). take i xs) now_i ∙ cut_front before.ignored inner.ignored i ends_i

    none_u : length now.untracked ≤ u → length inner.untracked ≡ 0
    none_u none = none_more before.untracked inner.untracked now.untracked u now_u ends_u none

    bare_u : length now.untracked ≤ u → now.untracked ≡ before.untracked
    bare_u none = now_u ∙ (ap (λ (xs : List (List ℕ)). before.untracked ++ xs) (no_list inner.untracked (none_u none)) ∙ append-nil before.untracked)

    pub untracked_stands : (new : Lines) → u < length now.untracked
        → new ≡ and_lines (both (take u now.untracked) now.ignored) (own_line has folder false) → new ≡ and_lines before (collapsed (own_line has folder) inner)
    untracked_stands new more e =
        let own = own_line has folder false in
        let own_i : own.ignored ≡ [] = ap (λ (l : Lines). l.ignored) plain in
        let some = some_more before.untracked inner.untracked now.untracked u now_u ends_u more in
        e
        ∙ (both_same (take u now.untracked ++ own.untracked) (before.untracked ++ (own.untracked ++ [])) (now.ignored ++ own.ignored) (before.ignored ++ (own.ignored ++ inner.ignored))
        (ap (λ (xs : List (List ℕ)). xs ++ own.untracked) cut_u ∙ ap (λ (xs : List (List ℕ)). before.untracked ++ xs) (sym (append-nil own.untracked)))
        (ap (λ (xs : List (List ℕ)). now.ignored ++ xs) own_i ∙ (append-nil now.ignored ∙ (now_i ∙ sym (ap (λ (xs : List (List ℕ)). before.ignored ++ (xs ++ inner.ignored)) own_i))))
        ∙ ap (λ (l : Lines). and_lines before l) (sym (with_untracked (own_line has folder) inner.untracked inner.ignored some)))

    pub ignored_stands : (new : Lines) → length now.untracked ≤ u → i < length now.ignored
        → new ≡ and_lines (both now.untracked (take i now.ignored)) (own_line has folder true) → new ≡ and_lines before (collapsed (own_line has folder) inner)
    ignored_stands new none more e =
        let own = own_line has folder true in
        e
        ∙ (both_same (now.untracked ++ own.untracked) (before.untracked ++ own.untracked) (take i now.ignored ++ own.ignored) (before.ignored ++ own.ignored)
        (ap (λ (xs : List (List ℕ)). xs ++ own.untracked) (bare_u none)) (ap (λ (xs : List (List ℕ)). xs ++ own.ignored) cut_i)
        ∙ ap (λ (l : Lines). and_lines before l)
        (sym (with_ignored (own_line has folder) inner.untracked inner.ignored (none_u none) (some_more before.ignored inner.ignored now.ignored i now_i ends_i more))))

    pub nothing_stands : length now.untracked ≤ u → length now.ignored ≤ i → now ≡ and_lines before (collapsed (own_line has folder) inner)
    nothing_stands none empty =
        let none_i = none_more before.ignored inner.ignored now.ignored i now_i ends_i empty in
        let bare_i : now.ignored ≡ before.ignored = now_i ∙ (ap (λ (xs : List (List ℕ)). before.ignored ++ xs) (no_list inner.ignored none_i) ∙ append-nil before.ignored) in
        both_same now.untracked (before.untracked ++ []) now.ignored (before.ignored ++ []) (bare_u none ∙ sym (append-nil before.untracked)) (bare_i ∙ sym (append-nil before.ignored))
        ∙ ap (λ (l : Lines). and_lines before l) (sym (with_none (own_line has folder) inner.untracked inner.ignored (none_u none) none_i))
