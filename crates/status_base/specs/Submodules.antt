-- The specified result of a submodule's status.
use Rattle.std.specs.Prelude.{◌≡◌, ℕ, List, Option, Result, Ok, Err, ⊤}
use Rattle.status_base.specs.declared.worktree.submodule.SubmoduleFault.{SubmoduleFault}
use Rattle.status_base.specs.declared.worktree.submodule.SubmoduleFault.TheVariants.{Failed, Memory}

-- The status of a submodule. A submodule returns its specified change or fault, or out of memory.
abbrev pub IsSubmoduleAnswer : {U : Type 0} → Result (Option U) (List ℕ) → Result (Option U) SubmoduleFault → Type 0
IsSubmoduleAnswer specified (Ok change) = specified ≡ Ok change
IsSubmoduleAnswer specified (Err (Failed text)) = specified ≡ Err text
IsSubmoduleAnswer specified (Err Memory) = ⊤

-- The change, or the text of the fault, is one that the submodule may report.
abbrev pub IsReported : {U : Type 0} → (Result (Option U) (List ℕ) → Type 0) → Result (Option U) SubmoduleFault → Type 0
IsReported may (Ok change) = may (Ok change)
IsReported may (Err (Failed text)) = may (Err text)
IsReported may (Err Memory) = ⊤
