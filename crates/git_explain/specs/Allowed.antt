-- Whether the results in a sight are ones that the calls may return.
use Rattle.std.specs.Prelude.{◌≡◌, ℕ, Bool, true, false, List, All, Option, Some, None, Result, Ok, Err, IfSome}
use Rattle.std.specs.Global.{Vec}
use Rattle.status_index.specs.declared.fault.Fault.{Fault}
use Rattle.status_index.specs.declared.stat.Metadata.{Metadata}
use Rattle.status_base.specs.Openings.{MayOpen}
use Rattle.status_base.specs.Sights.{MayStat}
use Rattle.status_call.specs.MayReturn.{MayReturn}
use Rattle.git_explain.specs.declared.sight.LstatCall.{LstatCall}
use Rattle.git_explain.specs.declared.sight.Reading.{Reading}
use Rattle.git_explain.specs.declared.sight.Sight.{Sight}
use Rattle.git_explain.specs.Sights.{content_of}

-- A content that may be read, and a target that a link may have, whichever node was met at the path.
abbrev pub opened_anyhow : {U : Type 0} → MayReturn U → List ℕ → MayOpen
opened_anyhow may path r = (n : Metadata) → may.opened path n r

abbrev pub linked_anyhow : {U : Type 0} → MayReturn U → List ℕ → Result (List ℕ) Fault → Type 0
linked_anyhow may path r = (n : Metadata) → may.linked path n r

-- Each call of `lstat` returned a result that it may return for its path.
abbrev pub AreCallsAllowed : MayStat → List LstatCall → Type 0
AreCallsAllowed may = All (λ call. may call.path.items call.found)

-- The file was read as it may be opened and read.
abbrev pub IsFileAllowed : MayOpen → Result Reading Fault → Type 0
IsFileAllowed may (Ok r) = may (Ok (content_of r))
IsFileAllowed may (Err f) = may (Err f)

-- The link has a target that it may have.
abbrev pub IsLinkAllowed : (Result (List ℕ) Fault → Type 0) → Result (Vec ℕ) Fault → Type 0
IsLinkAllowed may (Ok target) = may (Ok target.items)
IsLinkAllowed may (Err f) = may (Err f)

-- The submodule may report that it changed or didn't, or this fault.
abbrev pub IsSubmoduleAllowed : {U : Type 0} → (Result (Option U) (List ℕ) → Type 0) → Result Bool (List ℕ) → Type 0
IsSubmoduleAllowed {U} may (Ok true) = (change : U) × may (Ok (Some change))
IsSubmoduleAllowed may (Ok false) = may (Ok None)
IsSubmoduleAllowed may (Err text) = may (Err text)

-- Each result in a sight is one that the worktree or the submodule may return.
pub record IsSightAllowed {U : Type 0} (may_stat : MayStat) (may_open : MayOpen) (may_link : Result (List ℕ) Fault → Type 0)
    (may_report : Result (Option U) (List ℕ) → Type 0) (sight : Sight) : Type 0 where
  pub calls : AreCallsAllowed may_stat sight.calls.items
  pub file : IfSome sight.file (IsFileAllowed may_open)
  pub link : IfSome sight.link (IsLinkAllowed may_link)
  pub submodule : IfSome sight.submodule (IsSubmoduleAllowed may_report)

-- The file or the link was read too, as it may be. The rest of the sight stays.
pub record IsReadFurther (may_open : MayOpen) (may_link : Result (List ℕ) Fault → Type 0) (old new : Sight) : Type 0 where
  pub calls : new.calls ≡ old.calls
  pub submodule : new.submodule ≡ old.submodule
  pub file : IfSome old.file (IsFileAllowed may_open) → IfSome new.file (IsFileAllowed may_open)
  pub link : IfSome old.link (IsLinkAllowed may_link) → IfSome new.link (IsLinkAllowed may_link)
