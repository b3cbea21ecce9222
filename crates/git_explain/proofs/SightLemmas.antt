-- A sight that grows stays allowed, and a path whose directories were checked is open.
use Rattle.std.proofs.Common.{◌≡◌, ◌≤◌, ◌+◌, ℕ, List, Bool, None, Option, Result, Ok, Err, length, take, ap, subst, sym, arith}
use Rattle.std.specs.Global.{Vec}
use Rattle.std.specs.Prelude.{IfOk, IfSome}
use Rattle.std.specs.Result.{result_ok}
use Rattle.std.specs.declared.alloc.AllocError.{AllocError}
use Rattle.status_index.specs.declared.fault.Fault.{Fault}
use Rattle.status_index.specs.declared.fault.Fault.TheVariants as faults
use Rattle.status_index.specs.declared.stat.Metadata.{Metadata}
use Rattle.status_base.specs.LinkCheck.{barrier_of}
use Rattle.status_base.specs.Looked.{IsMet}
use Rattle.status_base.specs.Openings.{MayOpen}
use Rattle.status_base.specs.Sights.{MayStat, IsOpen, IsOpenBelow}
use Rattle.status_base.proofs.OpenWays.{open_more}
use Rattle.git_explain.specs.declared.explained.Explained.{Explained}
use Rattle.git_explain.specs.declared.sight.LstatCall.{LstatCall}
use Rattle.git_explain.specs.declared.sight.Sight.{Sight}
use Rattle.git_explain.specs.Allowed.{AreCallsAllowed, IsReadFurther, IsSightAllowed, IsSubmoduleAllowed}

-- A sight with a file or a link that may be read.
pub read_allowed : {U : Type 0} (may_stat : MayStat) (may_open : MayOpen) (may_link : Result (List ℕ) Fault → Type 0) (may_report : Result (Option U) (List ℕ) → Type 0) (old new : Sight)
    → IsSightAllowed may_stat may_open may_link may_report old → IsReadFurther may_open may_link old new → IsSightAllowed may_stat may_open may_link may_report new
read_allowed may_stat may_open may_link may_report old new h f = record {
  calls = subst (AreCallsAllowed may_stat) (sym (ap (λ (v : Vec LstatCall). v.items) f.calls)) h.calls;
  file = f.file h.file;
  link = f.link h.link;
  submodule = subst (λ (s : Option (Result Bool (List ℕ))). IfSome s (IsSubmoduleAllowed may_report)) (sym f.submodule) h.submodule;
}

-- The id of a content doesn't change the sight.
pub allowed_with_id : {U : Type 0} (may_stat : MayStat) (may_open : MayOpen) (may_link : Result (List ℕ) Fault → Type 0) (may_report : Result (Option U) (List ℕ) → Type 0) (x : Explained)
    (r : Result Explained AllocError) → IfOk r (λ y. y ≡ record x { id = y.id }) → IsSightAllowed may_stat may_open may_link may_report x.sight
    → IfOk r (λ y. IsSightAllowed may_stat may_open may_link may_report y.sight)
allowed_with_id may_stat may_open may_link may_report x (Ok y) same h = subst (IsSightAllowed may_stat may_open may_link may_report) (sym (ap (λ (z : Explained). z.sight) same)) h
allowed_with_id may_stat may_open may_link may_report x (Err e) same h = tt

-- No directory above a path was checked yet.
pub open_begun : (may : MayStat) (path : List ℕ) → ((p : List ℕ) → may p (Err faults.Memory)) → IsOpenBelow may path 0
open_begun may path may_fail = record {
  lstat = λ p. Err faults.Memory;
  allowed = may_fail;
  clear = λ k below slash. absurd (omega arith);
}

-- One more directory was checked, which is no barrier.
pub open_past : (may : MayStat) (path : List ℕ) (n : ℕ) (found : Result Metadata Fault) → n ≤ length path → may (take n path) found → barrier_of found ≡ None → IsOpenBelow may path n → IsOpenBelow may path (n + 1)
open_past may path n found within allowed clear o = open_more may path n within (record { answer = found; allowed = allowed; barrier = clear }) o

-- The node that `lstat` found at a path whose directories were checked.
pub node_met : (may : MayStat) (listed : Bool) (path : List ℕ) (found : Result Metadata Fault) → IsOpen may path → may path found → IfSome (result_ok found) (IsMet may listed path)
node_met may listed path (Ok node) above here = record { above = above; here = λ live. here }
node_met may listed path (Err f) above here = tt
