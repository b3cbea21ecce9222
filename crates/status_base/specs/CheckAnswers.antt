-- The results of a link check.
use Rattle.std.specs.Prelude.{◌≡◌, ◌⊎◌, ◌<◌, ℕ, List, [], length, Contains, Some, None, Result, Ok, Err}
use Rattle.bstr.specs.declared.bstr.BStr.{BStr}
use Rattle.bstr.specs.BStr.{bstr_bytes}
use Rattle.status_index.specs.declared.fault.Fault.{Fault}
use Rattle.status_index.specs.declared.fault.Fault.TheVariants as faults
use Rattle.status_index.specs.declared.stat.Metadata.{Metadata}
use Rattle.status_base.specs.declared.stack.error.StackError.{StackError}
use Rattle.status_base.specs.declared.stack.error.StackError.TheVariants.{EmptyPath, NotNormal, ThroughLink, Memory}
use Rattle.status_base.specs.declared.stack.error.StackError.TheVariants as errors
use Rattle.status_base.specs.Paths.{abnormal_component, directories, joined}
use Rattle.status_base.specs.LinkCheck.{LinkCheck, accepted, empty_path, not_normal, through_link, faulty, link_check}
use Rattle.status_base.specs.CheckState.{CheckState, IsClear}

-- The specified error, or out of memory.
abbrev pub IsCheckError : LinkCheck → StackError → Type 0
IsCheckError check EmptyPath = check ≡ empty_path
IsCheckError check (NotNormal component) = check ≡ not_normal (bstr_bytes component)
IsCheckError check (ThroughLink prefix) = check ≡ through_link (bstr_bytes prefix)
IsCheckError check (errors.Fault f) = (check ≡ faulty f) ⊎ (f ≡ faults.Memory)
IsCheckError check Memory = Unit {0}

-- The path if it is accepted, otherwise the specified error, or out of memory.
abbrev pub IsVerified : LinkCheck → List ℕ → Result BStr StackError → Type 0
IsVerified check path (Ok answer) = (check ≡ accepted) × (bstr_bytes answer ≡ path)
IsVerified check path (Err e) = IsCheckError check e

-- A check returns what a new one would if what it found open still is; the lenient one accepts missing directories. This is for
-- `verified_path`. An accepted path is returned, joined to the root.
abbrev pub IsVerifiedBy : (List ℕ → Result Metadata Fault) → CheckState → List ℕ → Result BStr StackError → Type 0
IsVerifiedBy lstat old path result = IsClear lstat old.path → IsVerified (link_check lstat path) (joined old.root path) result

-- Accepted, the specified error, or out of memory.
abbrev pub IsChecked : {A : Type 0} → LinkCheck → Result A StackError → Type 0
IsChecked check (Ok _) = check ≡ accepted
IsChecked check (Err e) = IsCheckError check e

abbrev pub unless_absent : Fault → LinkCheck
unless_absent faults.NotFound = accepted
unless_absent f = faulty f

-- The result if a path is also accepted when a directory above it isn't there.
abbrev pub accepting_absent : LinkCheck → LinkCheck
accepting_absent accepted = accepted
accepting_absent empty_path = empty_path
accepting_absent (not_normal component) = not_normal component
accepting_absent (through_link prefix) = through_link prefix
accepting_absent (faulty f) = unless_absent f

-- The same for the lenient check, `verified_path_allow_nonexisting`.
abbrev pub IsLenientBy : (List ℕ → Result Metadata Fault) → CheckState → List ℕ → Result BStr StackError → Type 0
IsLenientBy lstat old path result = IsClear lstat old.path → IsVerified (accepting_absent (link_check lstat path)) (joined old.root path) result

-- An error fits its path: the path is empty, the component is its leftmost abnormal one, or the prefix is one of its proper
-- directory prefixes.
abbrev pub IsNamed : List ℕ → StackError → Type 0
IsNamed path EmptyPath = path ≡ []
IsNamed path (NotNormal component) = abnormal_component path ≡ Some (bstr_bytes component)
IsNamed path (ThroughLink prefix) = Contains (directories path) (bstr_bytes prefix)
IsNamed path (errors.Fault f) = Unit {0}
IsNamed path Memory = Unit {0}

-- A path that isn't empty and has only normal components.
pub record IsNormal (path : List ℕ) : Type 0 where
  pub nonempty : 0 < length path
  pub normal : abnormal_component path ≡ None
