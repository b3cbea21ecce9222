-- The words of flags.
use Rattle.std.proofs.Common.{◌≡◌, ℕ, ◌+◌, ◌*◌, ◌/◌, ◌%◌, ◌^◌, ◌<◌, Bool, true, false, not, ◌&&◌, cond, ltb, eqb, List, [], ◌++◌, Result, Ok, Err, refl, sym, ap, subst, ◌∙◌, append_assoc, arith, inl, inr, ◌⊎◌}
use Rattle.std.proofs.lemmas.Bool.{ltb-true, lt-ltb, eqb-true, eqb-false, eq-eqb, ne_eqb, true≢false}
use Rattle.std.proofs.lemmas.List.{append-nil}
use Rattle.status_index.specs.FlagBits.{stage_of_bits}
use Rattle.git_index.specs.declared.fault.Fault.{Fault}
use Rattle.git_index.specs.declared.fault.Fault.TheVariants.{BadFlags}
use Rattle.git_index.specs.Numbers.{u16_bytes}
use Rattle.git_index.specs.RawEntry.{assume_valid, skip_worktree, intent_to_add, kept_flags, extended_word, is_extended, first_word, flags_bytes, FlagsFit}
use Rattle.git_index.specs.Reading.{◌>>=◌, u16_at, flags_of, is_extended_word, more_at, word_flags, flags_at}
use Rattle.git_index.proofs.Bits.{WordParts, word_parts, word_whole, flag_parts, more_parts, more_whole}
use Rattle.git_index.proofs.Fields.{IsBytes, bind_ok, guard_ok, guard_yes, ok_is, Takes, Takes-then, IsReader, u16_reader}

abbrev pub Read : Type 0
Read = ℕ × ℕ × ℕ

-- The flags that a file of this version states: the flags, the stated length, and how many bytes they take.
abbrev pub FlagsRead : ℕ → Read → Type 0
FlagsRead version x = FlagsFit version x.0 × (x.1 < 0x1000) × (x.2 ≡ cond (is_extended x.0) 4 2)

pub chosen : {A : Type 0} (b : Bool) (x y z : A) → cond b x y ≡ z → ((b ≡ true) × (x ≡ z)) ⊎ ((b ≡ false) × (y ≡ z))
chosen true x y z e = inl (refl, e)
chosen false x y z e = inr (refl, e)

both_true : (a b : Bool) → (a && b) ≡ true → (a ≡ true) × (b ≡ true)
both_true true b e = (refl, e)
both_true false b e = absurd cc

not_true : (a : Bool) → not a ≡ false → a ≡ true
not_true true e = refl
not_true false e = absurd cc

-- a word, the second word or 0, their flags, and whether there is a second word
record Same (w m f : ℕ) (b : Bool) : Type 0 where
  kept : f ≡ kept_flags f
  more : is_extended f ≡ b
  first : first_word f (w % 0x1000) ≡ w
  second : extended_word f ≡ m

same_flags : (w m f : ℕ) (b : Bool) → w < 2 ^ 16 → w / 0x4000 % 2 ≡ cond b 1 0 → m ≡ m / 0x4000 % 2 * 0x4000 + m / 0x2000 % 2 * 0x2000 → not (eqb m 0) ≡ b → f ≡ flags_of w m → Same w m f b
same_flags w m f b hw hbit hm hb e =
    let fp = flag_parts f (w / 0x1000 % 4) (w / 0x8000 % 2) (m / 0x2000 % 2) (m / 0x4000 % 2) (omega arith) (omega arith) (omega arith) (omega arith) e in
    let second : extended_word f ≡ m = rw (fp.skip_worktree, fp.intent_to_add) (sym hm) in
    let more : is_extended f ≡ b = rw second hb in
    record {
      kept = e ∙ sym (rw (fp.stage, fp.assume_valid, fp.intent_to_add, fp.skip_worktree) refl);
      more = more;
      first = rw (fp.assume_valid, more, fp.stage, ← hbit) (sym (word_whole w hw));
      second = second;
    }

one_bit : (n : ℕ) → (n ≡ 0 → ⊥) → n < 2 → n ≡ 1
one_bit n ne lt = omega arith

bit_small : (b : Bool) → cond b 1 0 < 2
bit_small true = omega arith
bit_small false = omega arith

abbrev read3 : ℕ → ℕ → ℕ → Read
read3 a b c = (a, b, c)

triple : (a b c x y z : ℕ) → a ≡ x → b ≡ y → c ≡ z → read3 a b c ≡ read3 x y z
triple a b c x y z p q r = cc

plain_takes : (version : ℕ) (bytes : List ℕ) (w : ℕ) (after : List ℕ) → Takes bytes (u16_bytes w) after → w < 2 ^ 16 → w / 0x4000 % 2 ≡ 0
    → Takes bytes (flags_bytes (flags_of w 0) (w % 0x1000)) after × FlagsRead version (flags_of w 0, w % 0x1000, 2)
unfolding flags_bytes
plain_takes version bytes w after t hw hbit =
    let s = same_flags w 0 (flags_of w 0) false hw hbit refl refl refl in
    (rw (s.first, s.more, append-nil) t, ((s.kept, λ _. s.more), omega arith, rw s.more refl))

more_takes : (version : ℕ) (bytes : List ℕ) (w : ℕ) (after : List ℕ) (m : ℕ) (rest : List ℕ) → Takes bytes (u16_bytes w) after → w < 2 ^ 16 → w / 0x4000 % 2 ≡ 1
    → Takes after (u16_bytes m) rest → is_extended_word m ≡ true → (version ≡ 2 → ⊥)
    → Takes bytes (flags_bytes (flags_of w m) (w % 0x1000)) rest × FlagsRead version (flags_of w m, w % 0x1000, 4)
unfolding flags_bytes
more_takes version bytes w after m rest t hw hbit u hm known =
    let h = both_true (not (eqb m 0) && ltb m 0x8000) (eqb (m % 0x2000) 0) hm in
    let g = both_true (not (eqb m 0)) (ltb m 0x8000) h.0 in
    let low : m % 0x2000 ≡ 0 = eqb-true (m % 0x2000) 0 h.1 in
    let lt : m < 0x8000 = ltb-true m 0x8000 g.1 in
    let s = same_flags w m (flags_of w m) true hw hbit (more_whole m lt low) g.0 refl in
    (rw (s.first, s.more, s.second) (Takes-then bytes (u16_bytes w) after (u16_bytes m) rest t u), ((s.kept, λ v. absurd (known v)), omega arith, rw s.more refl))

pub flags_takes : (version : ℕ) (bytes : List ℕ) (x : Read) (rest : List ℕ) → IsBytes bytes → flags_at version bytes ≡ Ok (x, rest) → Takes bytes (flags_bytes x.0 x.1) rest × FlagsRead version x
unfolding flags_at
flags_takes version bytes x rest fits e =
    let plain : ℕ × List ℕ → Read × List ℕ = λ word. ((flags_of word.0 0, word.0 % 0x1000, 2), word.1) in
    let last : ℕ × List ℕ → ℕ × List ℕ → Result (Read × List ℕ) Fault = λ word more. more_at word.0 more in
    let full : ℕ × List ℕ → ℕ × List ℕ → Read × List ℕ = λ word more. ((flags_of word.0 more.0, word.0 % 0x1000, 4), more.1) in
    let k : ℕ × List ℕ → Result (Read × List ℕ) Fault = word_flags version in
    let P : Read × List ℕ → Type 0 = λ y. Takes bytes (flags_bytes y.0.0 y.0.1) y.1 × FlagsRead version y.0 in
    let p = bind_ok (u16_at bytes) k (x, rest) e in
    let w = p.0.0 in
    let t = u16_reader.takes bytes w p.0.1 fits p.1 in
    elim (chosen (eqb (w / 0x4000 % 2) 0) (Ok (plain p.0)) (cond (eqb version 2) (Err BadFlags) (u16_at p.0.1 >>= last p.0)) (Ok (x, rest)) p.2) [
      | inl h ↦ subst P (ok_is (plain p.0) (x, rest) h.1) (plain_takes version bytes w p.0.1 t.0 t.1 (eqb-true (w / 0x4000 % 2) 0 h.0))
      | inr h ↦
          let g = guard_ok (eqb version 2) BadFlags (u16_at p.0.1 >>= last p.0) (x, rest) h.1 in
          let q = bind_ok (u16_at p.0.1) (last p.0) (x, rest) g.1 in
          let u = u16_reader.takes p.0.1 q.0.0 q.0.1 t.0.rest_fits q.1 in
          let y = guard_yes (is_extended_word q.0.0) BadFlags (Ok (full p.0 q.0)) (x, rest) q.2 in
          let bit : w / 0x4000 % 2 ≡ 1 = one_bit (w / 0x4000 % 2) (eqb-false (w / 0x4000 % 2) 0 h.0) (omega arith) in
          subst P (ok_is (full p.0 q.0) (x, rest) y.1) (more_takes version bytes w p.0.1 q.0.0 q.0.1 t.0 t.1 bit u.0 y.0 (eqb-false version 2 g.0))
    ]

-- ---- and again

read_plain : (version w : ℕ) (after : List ℕ) → w < 2 ^ 16 → w / 0x4000 % 2 ≡ 0 → flags_at version (u16_bytes w ++ after) ≡ Ok ((flags_of w 0, w % 0x1000, 2), after)
unfolding flags_at
read_plain version w after hw hbit = rw (u16_reader.again w after hw, hbit) refl

read_more : (version w m : ℕ) (after : List ℕ) → w < 2 ^ 16 → w / 0x4000 % 2 ≡ 1 → m < 2 ^ 16 → is_extended_word m ≡ true → eqb version 2 ≡ false → flags_at version (u16_bytes w ++ (u16_bytes m ++ after)) ≡ Ok ((flags_of w m, w % 0x1000, 4), after)
unfolding flags_at
read_more version w m after hw hbit hm more v = rw (u16_reader.again w (u16_bytes m ++ after) hw, hbit, v, u16_reader.again m after hm, more) refl

flags_are : (f l : ℕ) (b : Bool) → f ≡ kept_flags f → l < 0x1000 → is_extended f ≡ b
    → WordParts (first_word f l) (assume_valid f) (cond b 1 0) (stage_of_bits f) l × (flags_of (first_word f l) (extended_word f) ≡ f)
flags_are f l b kept hl hb =
    let bit : cond b 1 0 < 2 = bit_small b in
    let wp = word_parts (first_word f l) (assume_valid f) (cond b 1 0) (stage_of_bits f) l (omega arith) bit (omega arith) hl (rw hb refl) in
    let mp = more_parts (extended_word f) (skip_worktree f) (intent_to_add f) (omega arith) (omega arith) refl in
    (wp, rw (wp.stage, wp.assume_valid, mp.intent_to_add, mp.skip_worktree) (sym kept))

again_by : (version f l n : ℕ) (rest : List ℕ) (b : Bool) → FlagsRead version (f, l, n) → is_extended f ≡ b → flags_at version (flags_bytes f l ++ rest) ≡ Ok ((f, l, n), rest)
unfolding flags_bytes
again_by version f l n rest false fits hb =
    let a = flags_are f l false fits.0.0 fits.1 hb in
    let w = first_word f l in
    let zero-more : extended_word f ≡ 0 = eqb-true (extended_word f) 0 (not_true (eqb (extended_word f) 0) hb) in
    let spelled : flags_bytes f l ++ rest ≡ u16_bytes w ++ rest = ap (λ (c : Bool). (u16_bytes w ++ cond c (u16_bytes (extended_word f)) []) ++ rest) hb ∙ ap (λ (t : List ℕ). t ++ rest) (append-nil (u16_bytes w)) in
    let is : read3 (flags_of w 0) (w % 0x1000) 2 ≡ read3 f l n = triple _ _ _ _ _ _ (subst (λ (m : ℕ). flags_of w m ≡ f) zero-more a.1) a.0.low (sym (fits.2 ∙ ap (λ (c : Bool). cond c 4 2) hb)) in
    ap (flags_at version) spelled ∙ read_plain version w rest a.0.fits a.0.bit ∙ ap (λ (x : Read). Ok (x, rest)) is
again_by version f l n rest true fits hb =
    let a = flags_are f l true fits.0.0 fits.1 hb in
    let w = first_word f l in
    let m = extended_word f in
    let spelled : flags_bytes f l ++ rest ≡ u16_bytes w ++ (u16_bytes m ++ rest) = ap (λ (c : Bool). (u16_bytes w ++ cond c (u16_bytes m) []) ++ rest) hb ∙ append_assoc (u16_bytes w) (u16_bytes m) rest in
    let old : version ≡ 2 → ⊥ = λ v. true≢false (sym hb ∙ fits.0.1 v) in
    let is : read3 (flags_of w m) (w % 0x1000) 4 ≡ read3 f l n = triple _ _ _ _ _ _ a.1 a.0.low (sym (fits.2 ∙ ap (λ (c : Bool). cond c 4 2) hb)) in
    let small : m < 0x8000 = omega arith in
    let low : m % 0x2000 ≡ 0 = omega arith in
    let more : is_extended_word m ≡ true = rw (hb, lt-ltb m 0x8000 small, eq-eqb (m % 0x2000) 0 low) refl in
    ap (flags_at version) spelled ∙ read_more version w m rest a.0.fits a.0.bit (omega arith) more (ne_eqb version 2 old) ∙ ap (λ (x : Read). Ok (x, rest)) is

flags_again : (version : ℕ) (x : Read) (rest : List ℕ) → FlagsRead version x → flags_at version (flags_bytes x.0 x.1 ++ rest) ≡ Ok (x, rest)
flags_again version x rest fits = again_by version x.0 x.1 x.2 rest (is_extended x.0) fits refl

pub flags_reader : (version : ℕ) → IsReader Read (flags_at version) (λ x. flags_bytes x.0 x.1) (FlagsRead version)
flags_reader version = record { takes = flags_takes version; again = flags_again version }
