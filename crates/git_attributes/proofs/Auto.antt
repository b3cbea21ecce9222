-- With `text=auto`, converting by ids is as good as git's rule.
use Rattle.std.proofs.Common.{◌≡◌, ◌∙◌, ◌==◌, ◌&&◌, ◌||◌, not, ℕ, Bool, true, false, List, [], ◌∷◌, refl, sym, ap, subst, if◌then◌else◌}
use Rattle.std.proofs.lemmas.Slice.Eq.{bytes_eq-Decides}
use Rattle.std.specs.List.{list_any}
use Rattle.status_index.specs.BlobId.{blob_id, same_id}
use Rattle.status_index.specs.Entries.{IndexEntry}
use Rattle.status_index.specs.declared.id.HashKind.{HashKind}
use Rattle.status_index.specs.declared.id.ObjectId.{ObjectId}
use Rattle.status_index.specs.declared.id.ObjectId.TheVariants.{Sha1 as Sha1Id, Sha256 as Sha256Id}
use Rattle.git_attributes.specs.Clean.{AutoLaw, has_stored, is_kept, stored}
use Rattle.git_attributes.specs.declared.normalization.Normalization.{Normalization}
use Rattle.git_attributes.specs.Text.{begins_with_lf, has_crlf, has_lone_cr, is_binary, is_nul, normalized}

abbrev has_cr : List ℕ → Bool
has_cr [] = false
has_cr (b ∷ rest) = b == 13 || has_cr rest

or_false : (a b : Bool) → (a || b) ≡ false → (a ≡ false) × (b ≡ false)
or_false false b e = (refl, e)
or_false true b e = absurd cc

-- a text without CRLF is stored unchanged
kept : (pair : Bool) (b : ℕ) (rest less : List ℕ) → pair ≡ false → less ≡ rest → (if pair then less else (b ∷ less)) ≡ b ∷ rest
kept pair b rest less none same = rw none (ap (λ (t : List ℕ). b ∷ t) same)

unchanged : (bytes : List ℕ) → has_crlf bytes ≡ false → normalized bytes ≡ bytes
unchanged [] none = refl
unchanged (b ∷ rest) none = let parts = or_false (b == 13 && begins_with_lf rest) (has_crlf rest) none in
    kept (b == 13 && begins_with_lf rest) b rest (normalized rest) parts.0 (unchanged rest parts.1)

-- without a lone CR no CR is stored
left_out : (cr lf : Bool) (b : ℕ) (less : List ℕ) → cr ≡ b == 13 → (cr && not lf) ≡ false → has_cr less ≡ false → has_cr (if cr && lf then less else (b ∷ less)) ≡ false
left_out true true b less is lone none = none
left_out true false b less is lone none = absurd cc
left_out false lf b less is lone none = rw (sym is) none

no_cr : (bytes : List ℕ) → has_lone_cr bytes ≡ false → has_cr (normalized bytes) ≡ false
no_cr [] lone = refl
no_cr (b ∷ rest) lone = let parts = or_false (b == 13 && not (begins_with_lf rest)) (has_lone_cr rest) lone in
    left_out (b == 13) (begins_with_lf rest) b (normalized rest) refl parts.0 (no_cr rest parts.1)

no_crlf : (bytes : List ℕ) → has_cr bytes ≡ false → has_crlf bytes ≡ false
no_crlf [] none = refl
no_crlf (b ∷ rest) none = let parts = or_false (b == 13) (has_cr rest) none in rw (parts.0, no_crlf rest parts.1) refl

stored_has_none : (bytes : List ℕ) → is_binary bytes ≡ false → has_crlf (normalized bytes) ≡ false
unfolding is_binary
stored_has_none bytes text =
    let parts = or_false (has_lone_cr bytes || list_any is_nul bytes) _ text in
    no_crlf (normalized bytes) (no_cr bytes (or_false (has_lone_cr bytes) (list_any is_nul bytes) parts.0).0)

-- the bytes that are stored, by whether a binary file or another reason keeps them
abbrev chosen : Bool → Bool → List ℕ → List ℕ → List ℕ
chosen binary is_kept bytes less = if binary || is_kept then bytes else less

by_ids : (binary is_kept is_stored : Bool) (blob bytes less : List ℕ) → (is_stored ≡ true → bytes ≡ blob) → (bytes ≡ blob → is_stored ≡ true) → chosen binary is_kept bytes less ≡ blob → chosen binary is_stored bytes less ≡ blob
by_ids true is_kept is_stored blob bytes less same back e = e
by_ids false true is_stored blob bytes less same back e = rw (back e) e
by_ids false false true blob bytes less same back e = same refl
by_ids false false false blob bytes less same back e = e

-- git's reason to keep a text
abbrev has_crlf_stored : List ℕ → Bool
has_crlf_stored blob = not (is_binary blob) && has_crlf blob

kept_by_git : (is_kept : Bool) (blob bytes less : List ℕ) → bytes ≡ blob → (is_kept ≡ false → less ≡ bytes) → chosen false is_kept bytes less ≡ blob
kept_by_git true blob bytes less same unchanged = same
kept_by_git false blob bytes less same unchanged = unchanged refl ∙ same

not_kept : (blob bytes : List ℕ) → bytes ≡ blob → is_binary bytes ≡ false → has_crlf_stored blob ≡ false → normalized bytes ≡ bytes
not_kept blob bytes same text none =
    let crlf : has_crlf blob ≡ false = rw (rw same at text) at none in
    unchanged bytes (subst (λ t. has_crlf t ≡ false) (sym same) crlf)

less_not_kept : (binary : Bool) (blob bytes less : List ℕ) → less ≡ blob → has_crlf less ≡ false → (not binary && has_crlf blob) ≡ false
less_not_kept true blob bytes less same none = refl
less_not_kept false blob bytes less same none = rw same at none

by_git : (binary is_stored : Bool) (blob bytes : List ℕ) → is_binary bytes ≡ binary → (is_stored ≡ true → bytes ≡ blob) → chosen binary is_stored bytes (normalized bytes) ≡ blob → chosen binary (has_crlf_stored blob) bytes (normalized bytes) ≡ blob
by_git true is_stored blob bytes text same e = e
by_git false true blob bytes text same e = kept_by_git (has_crlf_stored blob) blob bytes (normalized bytes) e (not_kept blob bytes e text)
by_git false false blob bytes text same e = rw (less_not_kept (is_binary blob) blob bytes (normalized bytes) e (stored_has_none bytes text)) e

same_id_is : (a b : ObjectId) → same_id a b ≡ true → a ≡ b
same_id_is (Sha1Id a) (Sha1Id b) e = let same = (bytes_eq-Decides a b).0 e in cc
same_id_is (Sha256Id a) (Sha256Id b) e = let same = (bytes_eq-Decides a b).0 e in cc
same_id_is (Sha1Id a) (Sha256Id b) e = cc
same_id_is (Sha256Id a) (Sha1Id b) e = cc

same_id_self : (a : ObjectId) → same_id a a ≡ true
same_id_self (Sha1Id a) = (bytes_eq-Decides a a).1 refl
same_id_self (Sha256Id a) = (bytes_eq-Decides a a).1 refl

or_nothing : (b : Bool) → (b || false) ≡ b
or_nothing true = refl
or_nothing false = refl

pub auto_law : (kind : HashKind) (index : List IndexEntry) (path blob bytes : List ℕ) → AutoLaw kind index path blob bytes
auto_law kind index path blob bytes has known =
    let is_stored = has_stored kind index bytes path in
    let by_id : is_stored ≡ same_id (blob_id kind blob) (blob_id kind bytes) =
    ap (list_any (λ e. same_id e.id (blob_id kind bytes))) has.one ∙ or_nothing (same_id has.entry.id (blob_id kind bytes)) ∙ ap (λ id. same_id id (blob_id kind bytes)) has.id in
    let same : is_stored ≡ true → bytes ≡ blob = λ e. known (sym (same_id_is (blob_id kind blob) (blob_id kind bytes) (sym by_id ∙ e))) in
    let back : bytes ≡ blob → is_stored ≡ true = λ e. by_id ∙ subst (λ b. same_id (blob_id kind blob) (blob_id kind b) ≡ true) (sym e) (same_id_self (blob_id kind blob)) in
    (by_git (is_binary bytes) is_stored blob bytes refl same, by_ids (is_binary bytes) (has_crlf_stored blob) is_stored blob bytes (normalized bytes) same back)

-- nothing is left out of a text without CRLF
same_choice : (is_kept : Bool) (bytes less : List ℕ) → less ≡ bytes → bytes ≡ (if is_kept then bytes else less)
same_choice true bytes less same = refl
same_choice false bytes less same = sym same

pub stored_unchanged : (how : Normalization) (is_stored : Bool) (bytes : List ℕ) → has_crlf bytes ≡ false → bytes ≡ stored how is_stored bytes
stored_unchanged how is_stored bytes none = same_choice (is_kept how is_stored bytes) bytes (normalized bytes) (unchanged bytes none)
