-- The reports of a list's entries, at each step.
use Rattle.std.proofs.Common.{◌≡◌, refl, sym, ap, ◌∙◌, subst, ℕ, suc, ◌<◌, List, [], ◌∷◌, ◌++◌, length, map, take, All, arith, append_assoc, length-append}
use Rattle.std.proofs.lemmas.List.{append-nil}
use Rattle.std.proofs.lemmas.Bool.{false≢true}
use Rattle.std.proofs.lemmas.List.Elements.{All-head, All-tail, All-nil, All-append, All-push}
use Rattle.std.proofs.Math.Seq.{take-append_seam}
use Rattle.status_rewrites.specs.declared.rewrites.Rewritten.{Rewritten}
use Rattle.status_rewrites.specs.declared.rewrites.Rewritten.TheVariants.{Alone, Rewrite}
use Rattle.status_rewrites.specs.Entries.{IsLed}
use Rattle.status_joined.specs.Feeding.{AreReported}
use Rattle.status_joined.specs.Items.{Item, Reported, tracked, walked, modification, contents, rewrite, is_walked, IsReported}

module _ {T U : Type 0} where
  reported_append : (xs ys : List (Rewritten (Item T U))) (ts us : List (Reported T U)) → AreReported xs ts → AreReported ys us → AreReported (xs ++ ys) (ts ++ us)
  reported_append [] ys [] us h k = k
  reported_append [] ys (t ∷ ts) us h k = absurd h
  reported_append (x ∷ xs) ys [] us h k = absurd h
  reported_append (x ∷ xs) ys (t ∷ ts) us h k = (h.0, reported_append xs ys ts us h.1 k)

  -- There is a report for each entry whose destination is a node.
  may_report : (entry : Rewritten (Item T U)) → IsLed is_walked entry → (t : Reported T U) × IsReported entry t
  may_report (Alone (tracked v)) h = (modification v, refl)
  may_report (Alone (walked w id)) h = (contents w, refl)
  may_report (Rewrite source (walked w id) copy) h = (rewrite source w id copy, refl)
  may_report (Rewrite source (tracked v) copy) h = absurd (false≢true h)

  may_report_all : (entries : List (Rewritten (Item T U))) → All (IsLed is_walked) entries → (ts : List (Reported T U)) × AreReported entries ts
  may_report_all [] h = ([], tt)
  may_report_all (x ∷ xs) h =
      let first = may_report x (All-head (IsLed is_walked) x xs h) in
      let rest = may_report_all xs (All-tail (IsLed is_walked) x xs h) in
      (first.0 ∷ rest.0, (first.1, rest.1))

  -- The front of all entries was reported, and these are left.
  pub record IsReportedSoFar (entries : List (Rewritten (Item T U))) (old now : List (Reported T U)) (left : List (Rewritten (Item T U))) : Type 0 where
    pub front : List (Rewritten (Item T U))
    pub passed : List (Reported T U)
    pub reported : AreReported front passed
    pub grew : now ≡ old ++ passed
    pub whole : front ++ left ≡ entries

  pub none_reported : (entries : List (Rewritten (Item T U))) (old : List (Reported T U)) → IsReportedSoFar entries old old entries
  none_reported entries old = record { front = []; passed = []; reported = tt; grew = sym (append-nil old); whole = refl }

  pub one_more : (entries : List (Rewritten (Item T U))) (old now next : List (Reported T U)) (entry : Rewritten (Item T U)) (before left : List (Rewritten (Item T U))) → before ≡ entry ∷ left → IsReportedSoFar entries old now before → (t : Reported T U) × IsReported entry t × (next ≡ now ++ t ∷ []) → IsReportedSoFar entries old next left
  one_more entries old now next entry before left step h one = record {
    front = h.front ++ entry ∷ [];
    passed = h.passed ++ one.0 ∷ [];
    reported = reported_append h.front (entry ∷ []) h.passed (one.0 ∷ []) h.reported (one.1, tt);
    grew = one.2 ∙ ap (λ (l : List (Reported T U)). l ++ one.0 ∷ []) h.grew ∙ append_assoc old h.passed (one.0 ∷ []);
    whole = append_assoc h.front (entry ∷ []) left ∙ ap (λ (l : List (Rewritten (Item T U))). h.front ++ l) (sym step) ∙ h.whole;
  }

  all_behind : (P : Rewritten (Item T U) → Type 0) (xs ys : List (Rewritten (Item T U))) → All P (xs ++ ys) → All P ys
  all_behind P [] ys h = h
  all_behind P (x ∷ xs) ys h = all_behind P xs ys (All-tail P x (xs ++ ys) h)

  all_left : (P : Rewritten (Item T U) → Type 0) (entries : List (Rewritten (Item T U))) (old now : List (Reported T U)) (left : List (Rewritten (Item T U))) → IsReportedSoFar entries old now left → All P entries → All P left
  all_left P entries old now left h all = all_behind P h.front left (subst (All P) (sym h.whole) all)

  -- A fact of all entries is a fact of the next.
  pub holds_next : (P : Rewritten (Item T U) → Type 0) (entries : List (Rewritten (Item T U))) (old now : List (Reported T U)) (entry : Rewritten (Item T U)) (before left : List (Rewritten (Item T U))) → before ≡ entry ∷ left → IsReportedSoFar entries old now before → All P entries → P entry
  holds_next P entries old now entry before left step h all =
      All-head P entry left (subst (All P) step (all_left P entries old now before h all))

  pub all_reported : (entries : List (Rewritten (Item T U))) (old now : List (Reported T U)) (left : List (Rewritten (Item T U))) → left ≡ [] → IsReportedSoFar entries old now left → (ts : List (Reported T U)) × AreReported entries ts × (now ≡ old ++ ts)
  all_reported entries old now left none h =
      let whole : h.front ≡ entries = sym (append-nil h.front) ∙ ap (λ (l : List (Rewritten (Item T U))). h.front ++ l) (sym none) ∙ h.whole in
      (h.passed, subst (λ xs. AreReported xs h.passed) whole h.reported, h.grew)

  as_many : (xs : List (Rewritten (Item T U))) (ts : List (Reported T U)) → AreReported xs ts → length ts ≡ length xs
  as_many [] [] h = refl
  as_many [] (t ∷ ts) h = absurd h
  as_many (x ∷ xs) [] h = absurd h
  as_many (x ∷ xs) (t ∷ ts) h = ap (λ n. suc n) (as_many xs ts h.1)

  -- A front was reported, and nothing after it, though an entry was left.
  pub reported_until : (entries : List (Rewritten (Item T U))) (old now after : List (Reported T U)) (entry : Rewritten (Item T U)) (left rest : List (Rewritten (Item T U))) → left ≡ entry ∷ rest → All (IsLed is_walked) entries → IsReportedSoFar entries old now left → after ≡ now → (ts : List (Reported T U)) × AreReported entries ts × ((n : ℕ) × (n < length ts) × (after ≡ old ++ take n ts))
  reported_until entries old now after entry left behind step led h same =
      let rest = may_report_all left (all_left (IsLed is_walked) entries old now left h led) in
      let some : length rest.0 ≡ suc (length behind) = as_many left rest.0 rest.1 ∙ ap length step in
      let fits : length h.passed < length (h.passed ++ rest.0) = omega (arith, length-append h.passed rest.0, some) in (
        h.passed ++ rest.0,
        subst (λ xs. AreReported xs (h.passed ++ rest.0)) h.whole (reported_append h.front left h.passed rest.0 h.reported rest.1),
        (length h.passed, fits, same ∙ h.grew ∙ ap (λ (l : List (Reported T U)). old ++ l) (sym (take-append_seam h.passed rest.0))),
      )

  -- Items alone have no destination.
  pub alone_led : (items : List (Item T U)) → All (IsLed is_walked) (map Alone items)
  alone_led [] = All-nil (IsLed is_walked)
  alone_led (x ∷ xs) =
      All-append (IsLed is_walked) (Alone x ∷ []) (map Alone xs) (All-push (IsLed is_walked) [] (Alone x) (All-nil (IsLed is_walked)) tt) (alone_led xs)
