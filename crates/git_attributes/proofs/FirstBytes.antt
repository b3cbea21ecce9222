-- What git-lfs stores, by the first 1,024 bytes of a file, and the bytes of a reader.
use Rattle.std.proofs.Common.{◌≡◌, ◌∙◌, ◌⊎◌, ◌==◌, ◌-◌, ◌<◌, ◌≤◌, nat_lt, cond, Bool, true, false, List, [], ◌∷◌, ◌++◌, ℕ, zero, suc, length, take, Option, Some, None, Ok, refl, sym, ap, subst, inl, inr, arith}
use Rattle.std.proofs.lemmas.Bool.{cases_lt}
use Rattle.std.proofs.lemmas.Bool.Decides.{nat_tests}
use Rattle.std.proofs.lemmas.List.{append_assoc, length-take, take_all}
use Rattle.sha2.specs.Sha256.{sha256}
use Rattle.status_index.specs.Content.{Content, ReadKeeps}
use Rattle.status_index.specs.Given.{Follows, MayGive, behind}
use Rattle.status_index.proofs.ReaderPlace.{StandsAfter}
use Rattle.git_attributes.specs.declared.lfs.Hashed.{Hashed}
use Rattle.git_attributes.specs.Lfs.{IsHashed, is_pointer, pointer, stored_by_lfs}

-- ---- a reader

-- A read takes the next bytes.
pub stands_more : (first here later : Option Content) (done buffer : List ℕ) (n : ℕ)
    → StandsAfter first here done → ReadKeeps here later (Ok n) buffer → StandsAfter first later (done ++ take n buffer)
stands_more None here later done buffer n stands keeps = none_stays here stands keeps
  where
    none_stays : (here : Option Content) → here ≡ None → ReadKeeps here later (Ok n) buffer → later ≡ None
    none_stays None e keeps = keeps
    none_stays (Some b) e keeps = absurd cc
stands_more (Some a) None later done buffer n stands keeps = absurd stands
stands_more (Some a) (Some b) None done buffer n stands keeps = absurd keeps
stands_more (Some a) (Some b) (Some c) done buffer n stands keeps =
    (stands.0 ∙ ap (λ (rest : List ℕ). done ++ rest) keeps.0 ∙ sym (append_assoc done (take n buffer) c.bytes), keeps.1 ∙ stands.1)

pub follows_more : (first here later : MayGive) (done more : List ℕ) → Follows first here done → Follows here later more → Follows first later (done ++ more)
follows_more first here later done more before after content may =
    subst (λ (bytes : List ℕ). first (record { bytes = bytes; fault = content.fault })) (sym (append_assoc done more content.bytes)) (before (behind more content) (after content may))

-- ---- the first bytes of a file

take_both : (n : ℕ) (xs ys : List ℕ) → take n xs ++ take (n - length (take n xs)) ys ≡ take n (xs ++ ys)
take_both zero xs ys = refl
take_both (suc n) [] ys = let e : suc n - 0 ≡ suc n = omega arith in ap (λ (k : ℕ). take k ys) e
take_both (suc n) (x ∷ xs) ys =
    let e : suc n - suc (length (take n xs)) ≡ n - length (take n xs) = omega arith in
    ap (λ (t : List ℕ). x ∷ t) (ap (λ (k : ℕ). take n xs ++ take k ys) e ∙ take_both n xs ys)

-- More bytes were read, and the first 1,024 of all are kept.
pub first_more : (kept now done more : List ℕ) → kept ≡ take 1024 done → now ≡ kept ++ take (1024 - length kept) more → now ≡ take 1024 (done ++ more)
first_more kept now done more first is =
    is ∙ ap (λ (k : List ℕ). k ++ take (1024 - length k) more) first ∙ take_both 1024 done more

long_is_none : (bytes : List ℕ) → 1024 ≤ length bytes → is_pointer bytes ≡ false
unfolding is_pointer
long_is_none bytes long =
    let filled : (length bytes == 0) ≡ false = grind (arith, nat_tests) in
    let wide : nat_lt (length bytes) 1024 ≡ false = grind (arith, nat_tests) in
    rw (filled, wide) refl

-- The first bytes are those of a pointer exactly if all bytes are.
by_first : (bytes : List ℕ) → (length bytes < 1024) ⊎ (1024 ≤ length bytes) → is_pointer (take 1024 bytes) ≡ is_pointer bytes
by_first bytes (inl short) = ap is_pointer (take_all 1024 bytes (omega arith))
by_first bytes (inr long) =
    let many : 1024 ≤ length (take 1024 bytes) = omega (arith, length-take 1024 bytes) in
    long_is_none (take 1024 bytes) many ∙ sym (long_is_none bytes long)

whole : (bytes : List ℕ) → (length bytes < 1024) ⊎ (1024 ≤ length bytes) → is_pointer bytes ≡ true → take 1024 bytes ≡ bytes
whole bytes (inl short) is = take_all 1024 bytes (omega arith)
whole bytes (inr long) is = let none = long_is_none bytes long in absurd cc

pub kept_pointer : (kept bytes : List ℕ) → kept ≡ take 1024 bytes → is_pointer kept ≡ true → kept ≡ stored_by_lfs bytes
kept_pointer kept bytes first is =
    let pointed : is_pointer bytes ≡ true = sym (by_first bytes (cases_lt (length bytes) 1024)) ∙ (ap is_pointer (sym first) ∙ is) in
    first ∙ whole bytes (cases_lt (length bytes) 1024) pointed ∙ sym (ap (λ (v : Bool). cond v bytes (pointer (sha256 bytes) (length bytes))) pointed)

pub made_pointer : (kept bytes : List ℕ) → kept ≡ take 1024 bytes → is_pointer kept ≡ false → stored_by_lfs bytes ≡ pointer (sha256 bytes) (length bytes)
made_pointer kept bytes first is =
    let pointed : is_pointer bytes ≡ false = sym (by_first bytes (cases_lt (length bytes) 1024)) ∙ (ap is_pointer (sym first) ∙ is) in
    ap (λ (v : Bool). cond v bytes (pointer (sha256 bytes) (length bytes))) pointed

-- ---- the pointer

-- The parts of a pointer, one after the other.
pub pushed : (old a h b d e text number i1 i2 i3 i4 i5 : List ℕ) → i1 ≡ old ++ a → i2 ≡ i1 ++ text → text ≡ h → i3 ≡ i2 ++ b → i4 ≡ i3 ++ number → number ≡ d → i5 ≡ i4 ++ e
    → i5 ≡ old ++ ((((a ++ h) ++ b) ++ d) ++ e)
pushed old a h b d e text number i1 i2 i3 i4 i5 one two th three four nd five = rw (five, four, nd, three, two, th, one) (simp append_assoc)

-- The first bytes of a file stay if they are a pointer.
pub stays : (kept bytes : List ℕ) (hashed : Hashed) → is_pointer kept ≡ true → IsHashed kept bytes hashed → kept ≡ stored_by_lfs bytes
stays kept bytes hashed is of = kept_pointer kept bytes of.kept is

pub replaced : (kept now bytes : List ℕ) (hashed : Hashed) → is_pointer kept ≡ false → now ≡ pointer hashed.digest hashed.len → IsHashed kept bytes hashed → now ≡ stored_by_lfs bytes
replaced kept now bytes hashed is made of =
    made ∙ ap (λ (d : List ℕ). pointer d hashed.len) of.digest ∙ ap (λ (n : ℕ). pointer (sha256 bytes) n) of.len ∙ sym (made_pointer kept bytes of.kept is)
