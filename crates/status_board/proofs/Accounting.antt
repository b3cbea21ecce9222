-- The pieces that workers finished account for the numbers that their seats drew.
use Rattle.std.proofs.Common.{inl, inr, ◌≡◌, refl, sym, ap, subst, ◌∙◌, ℕ, ◌+◌, ◌-◌, ◌<◌, ◌==◌, Bool, true, false, if◌then◌else◌, List, [], ◌∷◌, ◌++◌, length, All, Result, Ok, Err, IfOk, arith}
use Rattle.std.proofs.lemmas.List.{length-append, append-nil, append_assoc}
use Rattle.std.proofs.lemmas.List.Elements.{All-nil, All-append, All-push}
use Rattle.std.proofs.lemmas.Bool.{cases_Bool}
use Rattle.status_board.specs.Numbers.{times, after_last}
use Rattle.status_board.specs.Seats.{BoardId, SeatState, drawn_of, barred_of, reported_of}
use Rattle.status_board.specs.declared.work.Finished.{Finished}
use Rattle.status_board.specs.declared.gathered.Gathered.{Gathered}
use Rattle.status_board.specs.declared.work.Worked.{Worked}
use Rattle.status_board.specs.Accounts.{Accounts, AreAccounted, IsBoth, IsBrought, IsNothing, IsWorked}
use Rattle.status_board.specs.FinishedPieces.{outs_at, shorts_of}
use Rattle.status_board.proofs.Counts.{times-append}
use Rattle.status_board.proofs.Lasts.{after_last-snoc, after_last-le}
use Rattle.status_board.proofs.Lists.{outs_at-append, shorts_of-append, shorts_of-here, shorts_of-other}

-- a draw leaves fewer numbers
pub fewer_left : (pieces n : ℕ) (old mid new : List ℕ) → new ≡ mid → mid ≡ old ++ n ∷ [] → n < pieces → All (λ k. k < n) old → pieces - after_last new < pieces - after_last old
fewer_left pieces n old mid new same is inside above =
    let now : after_last new ≡ n + 1 = ap after_last (same ∙ is) ∙ after_last-snoc old n in
    let before = after_last-le n old above in
    omega arith

times-drawn_of : (n : ℕ) (ss : List SeatState) (s : SeatState) → times n (drawn_of (ss ++ s ∷ [])) ≡ times n (drawn_of ss) + times n s.drawn
times-drawn_of n [] s = ap (times n) (append-nil s.drawn) ∙ omega arith
times-drawn_of n (r ∷ ss) s =
    let rest = times-drawn_of n ss s in
    omega (arith, times-append n r.drawn (drawn_of (ss ++ s ∷ [])), times-append n r.drawn (drawn_of ss))

times-barred_of : (n : ℕ) (ss : List SeatState) (s : SeatState) → times n (barred_of (ss ++ s ∷ [])) ≡ times n (barred_of ss) + times n s.barred
times-barred_of n [] s = ap (times n) (append-nil s.barred) ∙ omega arith
times-barred_of n (r ∷ ss) s =
    let rest = times-barred_of n ss s in
    omega (arith, times-append n r.barred (barred_of (ss ++ s ∷ [])), times-append n r.barred (barred_of ss))

reported_of-push : (ss : List SeatState) (s : SeatState) → reported_of (ss ++ s ∷ []) ≡ reported_of ss ++ s.reported
reported_of-push [] s = append-nil s.reported
reported_of-push (r ∷ ss) s = ap (λ (ks : List ℕ). r.reported ++ ks) (reported_of-push ss s) ∙ sym (append_assoc r.reported (reported_of ss) s.reported)

module _ {O : Type 0} where
  -- a finished piece counts once at its number
  one_out : (n : ℕ) (f : Finished O) → length (outs_at n (f ∷ [])) ≡ times n (f.number ∷ [])
  one_out n f = elim (cases_Bool (f.number == n)) [ inl e ↦ rw e refl | inr e ↦ rw e refl ]

  outs_more : (n : ℕ) (fs gs : List (Finished O)) → length (outs_at n (fs ++ gs)) ≡ length (outs_at n fs) + length (outs_at n gs)
  outs_more n fs gs = ap length (outs_at-append n fs gs) ∙ length-append (outs_at n fs) (outs_at n gs)

  module _ (gives : ℕ → O → Type 0) (short : O → Bool) where
    abbrev Given : Finished O → Type 0
    Given f = gives f.number f.out

    pub accounts_same : (s t : SeatState) (pending : List ℕ) (fs : List (Finished O)) → t ≡ s → Accounts gives short pending s fs → Accounts gives short pending t fs
    accounts_same s t pending fs is a = subst (λ (u : SeatState). Accounts gives short pending u fs) (sym is) a

    pub accounts_drawn : (s t : SeatState) (n : ℕ) (fs : List (Finished O)) → t ≡ record s { drawn = s.drawn ++ n ∷ [] } → Accounts gives short [] s fs → Accounts gives short (n ∷ []) t fs
    accounts_drawn s t n fs is a = record {
      drawn = λ x. let d : times x t.drawn ≡ times x (s.drawn ++ n ∷ []) = ap (λ (u : SeatState). times x u.drawn) is in let b : times x t.barred ≡ times x s.barred = ap (λ (u : SeatState). times x u.barred) is in omega (arith, a.drawn x, times-append x s.drawn (n ∷ []));
      reported = ap (λ (u : SeatState). u.reported) is ∙ a.reported;
      each = a.each;
    }

    pub accounts_barred : (s t : SeatState) (n : ℕ) (fs : List (Finished O)) → t ≡ record s { barred = s.barred ++ n ∷ [] } → Accounts gives short (n ∷ []) s fs → Accounts gives short [] t fs
    accounts_barred s t n fs is a = record {
      drawn = λ x. let d : times x t.drawn ≡ times x s.drawn = ap (λ (u : SeatState). times x u.drawn) is in let b : times x t.barred ≡ times x (s.barred ++ n ∷ []) = ap (λ (u : SeatState). times x u.barred) is in omega (arith, a.drawn x, times-append x s.barred (n ∷ []));
      reported = ap (λ (u : SeatState). u.reported) is ∙ a.reported;
      each = a.each;
    }

    module _ (s t : SeatState) (f : Finished O) (fs : List (Finished O)) (gave : gives f.number f.out) (a : Accounts gives short (f.number ∷ []) s fs) where
      kept : t.drawn ≡ s.drawn → t.barred ≡ s.barred → t.reported ≡ s.reported ++ shorts_of short (f ∷ []) → Accounts gives short [] t (fs ++ f ∷ [])
      kept same_drawn same_barred reported = record {
        drawn = λ x. let d : times x t.drawn ≡ times x s.drawn = ap (times x) same_drawn in let b : times x t.barred ≡ times x s.barred = ap (times x) same_barred in omega (arith, a.drawn x, outs_more x fs (f ∷ []), one_out x f);
        reported = reported ∙ ap (λ (ks : List ℕ). ks ++ shorts_of short (f ∷ [])) a.reported ∙ sym (shorts_of-append short fs (f ∷ []));
        each = All-push Given fs f a.each gave;
      }

      kept_by : (b : Bool) → short f.out ≡ b → t ≡ (if b then record s { reported = s.reported ++ f.number ∷ [] } else s) → Accounts gives short [] t (fs ++ f ∷ [])
      kept_by true e is =
          kept (ap (λ (u : SeatState). u.drawn) is) (ap (λ (u : SeatState). u.barred) is)
          (ap (λ (u : SeatState). u.reported) is ∙ sym (ap (λ (ks : List ℕ). s.reported ++ ks) (shorts_of-here short f [] e)))
      kept_by false e is =
          kept (ap (λ (u : SeatState). u.drawn) is) (ap (λ (u : SeatState). u.barred) is)
          (ap (λ (u : SeatState). u.reported) is ∙ sym (append-nil s.reported) ∙ sym (ap (λ (ks : List ℕ). s.reported ++ ks) (shorts_of-other short f [] e)))

      pub accounts_finished : t ≡ (if short f.out then record s { reported = s.reported ++ f.number ∷ [] } else s) → Accounts gives short [] t (fs ++ f ∷ [])
      accounts_finished is = kept_by (short f.out) refl is

    module _ (board : BoardId) where
      accounted_none : (ss : List SeatState) (fs : List (Finished O)) → ss ≡ [] → fs ≡ [] → AreAccounted short board ss fs
      accounted_none ss fs none nil = record {
        boards = subst (λ (us : List SeatState). All (λ s. s.board ≡ board) us) (sym none) (All-nil (λ (s : SeatState). s.board ≡ board));
        done = subst (λ (us : List SeatState). All (λ s. s.done ≡ true) us) (sym none) (All-nil (λ (s : SeatState). s.done ≡ true));
        drawn = λ n. let d : times n (drawn_of ss) ≡ 0 = ap (λ (us : List SeatState). times n (drawn_of us)) none in let b : times n (barred_of ss) ≡ 0 = ap (λ (us : List SeatState). times n (barred_of us)) none in let o : length (outs_at n fs) ≡ 0 = ap (λ (gs : List (Finished O)). length (outs_at n gs)) nil in omega arith;
        reported = ap reported_of none ∙ sym (ap (shorts_of short) nil);
      }

      accounted_more : (ss : List SeatState) (fs : List (Finished O)) (w : Worked O) → AreAccounted short board ss fs → IsWorked gives short board w → AreAccounted short board (ss ++ w.seat ∷ []) (fs ++ w.finished.items)
      accounted_more ss fs w all one = let s = w.seat in let gs = w.finished.items in record {
        boards = All-push (λ (u : SeatState). u.board ≡ board) ss s all.boards one.board_is;
        done = All-push (λ (u : SeatState). u.done ≡ true) ss s all.done one.done;
        drawn = λ n. let a = all.drawn n in let b = one.accounts.drawn n in omega (arith, times-drawn_of n ss s, times-barred_of n ss s, outs_more n fs gs);
        reported = reported_of-push ss s ∙ ap (λ (ks : List ℕ). ks ++ s.reported) all.reported ∙ ap (λ (ks : List ℕ). shorts_of short fs ++ ks) one.accounts.reported ∙ sym (shorts_of-append short fs gs);
      }

      brought_none : (a : Gathered O) → IsNothing a → IsBrought gives short board 0 a
      brought_none a none = record {
        accounted = accounted_none a.seats.items a.finished.items none.0 none.1;
        each = subst (λ (gs : List (Finished O)). All Given gs) (sym none.1) (All-nil Given);
        all = none.2;
      }

      -- before the first worker is back
      pub brought_start : {E : Type 0} (r : Result (Gathered O) E) → IfOk r IsNothing → IfOk r (IsBrought gives short board 0)
      brought_start (Ok a) none = brought_none a none
      brought_start (Err e) none = tt

      -- one more worker is back
      pub brought_more : {E : Type 0} (n : ℕ) (r : Result (Gathered O) E) (w : Result (Worked O) E) (t : Result (Gathered O) E) → IsBoth r w t → IfOk r (IsBrought gives short board n) → IfOk w (IsWorked gives short board) → IfOk t (IsBrought gives short board (n + 1))
      brought_more n (Ok a) (Ok w) (Ok b) both all one = record {
        accounted = rw (both.0, both.1) (accounted_more a.seats.items a.finished.items w all.accounted one);
        each = rw both.1 (All-append Given a.finished.items w.finished.items all.each one.accounts.each);
        all = both.2 ∙ ap (λ (k : ℕ). k + 1) all.all;
      }
      brought_more n (Ok a) (Err e) (Ok b) both all one = absurd both
      brought_more n (Err e) w (Ok b) both all one = absurd both
      brought_more n r w (Err e) both all one = tt
