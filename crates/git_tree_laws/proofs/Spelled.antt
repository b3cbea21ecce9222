-- The bytes of a tree begin with one item.
use Rattle.std.proofs.Common.{◌≡◌, ◌≢◌, ℕ, Bool, true, false, eqb, List, [], ◌∷◌, ◌++◌, length, take, drop, All, inl, inr, refl, sym, ◌∙◌, ap, arith, append_assoc}
use Rattle.std.proofs.lemmas.Bool.Decides.{eqb_tells}
use Rattle.std.proofs.lemmas.List.{length-append}
use Rattle.std.proofs.lemmas.List.Elements.{All-cons, All-head, All-nil, All-tail}
use Rattle.std.proofs.Math.Seq.{take-append_seam, drop-append_seam}
use Rattle.sha1.specs.Sha1.{sha1, digest_bytes}
use Rattle.sha2.proofs.Facts256.{length-sha256}
use Rattle.status_index.specs.declared.id.HashKind.{HashKind}
use Rattle.status_index.specs.declared.id.HashKind.TheVariants.{Sha1, Sha256}
use Rattle.status_index.specs.declared.id.ObjectId.{ObjectId}
use Rattle.status_index.specs.declared.id.ObjectId.TheVariants.{Sha1 as Sha1Id, Sha256 as Sha256Id}
use Rattle.status_index.specs.declared.mode.Mode.{Mode}
use Rattle.status_index.specs.declared.mode.Mode.TheVariants.{Dir, File, FileExecutable, Symlink, Commit}
use Rattle.status_index.specs.BlobId.{digest_id, id_bytes, id_kind}
use Rattle.git_objects.specs.declared.tree.TreeItem.{TreeItem}
use Rattle.git_objects.specs.Contents.{BeginsWith, IsOctal, id_len, octal_after}
use Rattle.git_objects.specs.Splits.{Lacks, is_byte}
use Rattle.git_staged.specs.TreeFiles.{tree_mode}
use Rattle.git_staged.specs.Trees.{octal_mode}

-- ---- the parts at the first byte of a value

is_first : (a b : ℕ) → eqb a b ≡ false → a ≢ b
is_first a b differ same = elim (eqb_tells a b) [ inl equal ↦ true_or_false (eqb a b) equal.0 differ | inr other ↦ other.1 same ]
  where
    true_or_false : (t : Bool) → t ≡ true → t ≡ false → ⊥
    true_or_false true p q = absurd (cc)
    true_or_false false p q = absurd (cc)

is_other : (a b : ℕ) → a ≢ b → eqb a b ≡ false
is_other a b differ = elim (eqb_tells a b) [ inl equal ↦ absurd (differ equal.1) | inr other ↦ other.0 ]

pub heads : {X : Type 0} (x y : X) (xs ys : List X) → x ∷ xs ≡ y ∷ ys → (x ≡ y) × (xs ≡ ys)
heads x y xs ys e = (cc, cc)

pub one_split : (value : ℕ) (a b c d : List ℕ) → Lacks value a → Lacks value b → a ++ value ∷ c ≡ b ++ value ∷ d → (a ≡ b) × (c ≡ d)
one_split value [] [] c d p q e = (refl, (heads value value c d e).1)
one_split value [] (y ∷ b) c d p q e = absurd (is_first y value (All-head (λ x. is_byte value x ≡ false) y b q) (sym (heads value y c (b ++ value ∷ d) e).0))
one_split value (x ∷ a) [] c d p q e = absurd (is_first x value (All-head (λ x. is_byte value x ≡ false) x a p) (heads x value (a ++ value ∷ c) d e).0)
one_split value (x ∷ a) (y ∷ b) c d p q e =
    let h = heads x y (a ++ value ∷ c) (b ++ value ∷ d) e in
    let more = one_split value a b c d (All-tail (λ x. is_byte value x ≡ false) x a p) (All-tail (λ x. is_byte value x ≡ false) y b q) h.1 in
    (ap (λ (z : ℕ). z ∷ a) h.0 ∙ ap (λ (l : List ℕ). y ∷ l) more.0, more.1)

-- Octal digits have no space.
pub no_space : (digits : List ℕ) → All IsOctal digits → Lacks 32 digits
no_space [] h = All-nil (λ b. is_byte 32 b ≡ false)
no_space (d ∷ digits) h =
    let first : IsOctal d = All-head IsOctal d digits h in
    All-cons (λ b. is_byte 32 b ≡ false) d digits (is_other d 32 (λ same. absurd (omega (arith, first.0, same)))) (no_space digits (All-tail IsOctal d digits h))

pub mode_read : (mode : Mode) → tree_mode (octal_after 0 (octal_mode mode)) ≡ mode
mode_read Dir = refl
mode_read File = refl
mode_read FileExecutable = refl
mode_read Symlink = refl
mode_read Commit = refl

pub spelled : (a name i rest : List ℕ) → ((((a ++ (32 ∷ [])) ++ name) ++ (0 ∷ [])) ++ i) ++ rest ≡ a ++ 32 ∷ (name ++ 0 ∷ (i ++ rest))
spelled a name i rest = simp append_assoc

-- ---- ids

length-sha1 : (m : List ℕ) → length (sha1 m) ≡ 20
unfolding sha1 digest_bytes
length-sha1 m = refl

pub digest_len : (kind : HashKind) (m : List ℕ) → length (id_bytes (digest_id kind m)) ≡ id_len kind
digest_len Sha1 m = length-sha1 m
digest_len Sha256 m = length-sha256 m

pub digest_kind : (kind : HashKind) (m : List ℕ) → id_kind (digest_id kind m) ≡ kind
digest_kind Sha1 m = refl
digest_kind Sha256 m = refl

same_id : (a b : ObjectId) → id_kind a ≡ id_kind b → id_bytes a ≡ id_bytes b → a ≡ b
same_id (Sha1Id x) (Sha1Id y) kind e = ap Sha1Id e
same_id (Sha256Id x) (Sha256Id y) kind e = ap Sha256Id e
same_id (Sha1Id x) (Sha256Id y) kind e = absurd (cc)
same_id (Sha256Id x) (Sha1Id y) kind e = absurd (cc)

pub same_ids : (a b : ObjectId) (r rest : List ℕ) → id_kind a ≡ id_kind b → length (id_bytes a) ≡ length (id_bytes b) → id_bytes a ++ r ≡ id_bytes b ++ rest → (a ≡ b) × (r ≡ rest)
same_ids a b r rest kind len e = (
  same_id a b kind (sym (take-append_seam (id_bytes a) r) ∙ (ap (λ (n : ℕ). take n (id_bytes a ++ r)) len ∙ (ap (take (length (id_bytes b))) e ∙ take-append_seam (id_bytes b) rest))),
  sym (drop-append_seam (id_bytes a) r) ∙ (ap (λ (n : ℕ). drop n (id_bytes a ++ r)) len ∙ (ap (drop (length (id_bytes b))) e ∙ drop-append_seam (id_bytes b) rest)),
)

-- ---- items

-- No item is left of no bytes.
pub no_item : (kind : HashKind) (item : TreeItem) (r : List ℕ) → BeginsWith kind [] item r → ⊥
no_item kind item r b = absurd (omega (arith, ap length b.bytes, length-append b.digits (32 ∷ (item.name.now ++ 0 ∷ (id_bytes item.id ++ r)))))
