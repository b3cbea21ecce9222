-- A proof of a law: it may be that nothing was seen, since memory ran out.
use Rattle.std.specs.Prelude.{◌≡◌, ℕ, List, Bool, true, false, None, Err, refl, if◌then◌else◌}
use Rattle.std.proofs.Common.{subst}
use Rattle.status_index.specs.Absence.{is_absence}
use Rattle.status_index.specs.Entries.{IndexEntry}
use Rattle.status_index.specs.declared.fault.Fault.{Fault}
use Rattle.status_index.specs.declared.fault.Fault.TheVariants as faults
use Rattle.status_base.specs.LinkCheck.{LinkCheck, accepted, empty_path, not_normal, through_link, faulty, link_check}
use Rattle.status_index.specs.declared.stat.Metadata.{Metadata}
use Rattle.status_call.specs.EntrySights.{IfPresent, IsContentAllowed, IsViewAllowed}
use Rattle.status_call.specs.MayReturn.{MayReturn}
use Rattle.status_call.specs.Status.{Found, cached_or, directory, found_by, nothing, present, refused}
use Rattle.status_call.specs.Views.{nothing_seen}

-- A fact that has to hold of a directory alone.
abbrev OnDirectory : Type 0 → Found → Type 0
OnDirectory A nothing = Unit {0}
OnDirectory A (refused f) = Unit {0}
OnDirectory A directory = A
OnDirectory A (present n) = Unit {0}

on_fault : (A : Type 0) (f : Fault) (absent : Bool) → OnDirectory A (if absent then nothing else refused f)
on_fault A f true = tt
on_fault A f false = tt

on_check : (A : Type 0) (check : LinkCheck) → OnDirectory A (found_by check (cached_or None (Err faults.Memory)))
on_check A accepted = tt
on_check A empty_path = tt
on_check A (not_normal component) = tt
on_check A (through_link prefix) = tt
on_check A (faulty f) = on_fault A f (is_absence f)

no_directory : {A : Type 0} (path : List ℕ) → found_by (link_check (λ _. Err faults.Memory) path) (cached_or None (Err faults.Memory)) ≡ directory → A
no_directory {A} path h = subst (OnDirectory A) h (on_check A (link_check (λ _. Err faults.Memory) path))

unmet : (P : Metadata → Type 0) (absent : Bool) (f : Fault) → IfPresent (if absent then nothing else refused f) P
unmet P true f = tt
unmet P false f = tt

-- Nothing is met at a path if `lstat` runs out of memory.
nothing_met : (P : Metadata → Type 0) (check : LinkCheck) → IfPresent (found_by check (cached_or None (Err faults.Memory))) P
nothing_met P accepted = tt
nothing_met P empty_path = tt
nothing_met P (not_normal component) = tt
nothing_met P (through_link prefix) = tt
nothing_met P (faulty f) = unmet P (is_absence f) f

-- The view of an entry for which memory ran out is allowed, if `lstat` may run out of memory.
pub free_view : {U : Type 0} (may : MayReturn U) (fscache : Bool) (e : IndexEntry) → ((path : List ℕ) → may.stat path (Err faults.Memory)) → IsViewAllowed may fscache e nothing_seen
free_view may fscache e stat = record {
  stats = stat;
  unlisted = λ _. refl;
  node = tt;
  content = nothing_met (λ n. IsContentAllowed may e n nothing_seen) (link_check (λ _. Err faults.Memory) e.path);
  submodule = λ there. no_directory e.path there;
}
