-- The header of a loose object.
use Rattle.std.proofs.Common.{◌≡◌, ℕ, List, [], ◌∷◌, ◌++◌, sym, ◌∙◌, ap, append_assoc}

-- A name, a space, digits, a zero byte and a content.
pub parts_joined : (name digits content header bytes : List ℕ) → header ≡ name ++ 32 ∷ digits → bytes ≡ header ++ 0 ∷ content
    → name ++ 32 ∷ [] ++ digits ++ 0 ∷ [] ++ content ≡ bytes
parts_joined name digits content header bytes h b =
    append_assoc (name ++ 32 ∷ [] ++ digits) (0 ∷ []) content
    ∙ (ap (λ (front : List ℕ). front ++ 0 ∷ content) (append_assoc name (32 ∷ []) digits ∙ sym h) ∙ sym b)
