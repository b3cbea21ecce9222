-- Results that are the specified ones, or out of memory.
use Rattle.std.specs.Prelude.{◌≡◌, ◌⊎◌, ℕ, List, [], Option, Some, Result, Ok, Err}
use Rattle.status_index.specs.Content.{Content}
use Rattle.status_index.specs.declared.fault.Fault.{Fault}
use Rattle.status_index.specs.declared.fault.Fault.TheVariants.{Memory}

-- An opened file has the specified content left to read. If a fault is specified, no file is opened.
abbrev pub HasLeft : Result Content Fault → Option Content → Type 0
HasLeft (Ok content) left = left ≡ Some content
HasLeft (Err f) left = ⊥

-- A modelled worktree returns the specified result or out of memory; a clone of another interface has its original's
-- specification. This is for opening a file.
abbrev pub IsOpened : {F : Type 0} → (F → Option Content) → Result Content Fault → Result F Fault → Type 0
IsOpened left specified (Ok file) = HasLeft specified (left file)
IsOpened left specified (Err f) = (specified ≡ Err f) ⊎ (f ≡ Memory)

-- The target is the specified one, or the buffer is empty and the fault is the specified one or out of memory.
abbrev pub IsTarget : {A : Type 0} → Result (List ℕ) Fault → Result A Fault → List ℕ → Type 0
IsTarget specified (Ok _) target = specified ≡ Ok target
IsTarget specified (Err f) target = ((specified ≡ Err f) ⊎ (f ≡ Memory)) × (target ≡ [])

-- A clone has the specification of its original.
abbrev pub CloneKeeps : {A M : Type 0} → (A → A → Type 0) → (A → M) → Type 0
CloneKeeps {A} is_clone value = (x y : A) → is_clone x y → value y ≡ value x
