-- The node that a look-up met, and the kind of the node that is read.
use Rattle.std.proofs.Common.{◌≡◌, ◌≢◌, refl, sym, subst, ℕ, Bool, true, false, List, IfOk, Option, Some, None, Result, Ok, Err}
use Rattle.std.proofs.Math.Logic.{∥∥₁_map}
use Rattle.std.specs.Prelude.{⊤}
use Rattle.status_index.specs.declared.mode.Change.{Change}
use Rattle.status_index.specs.declared.mode.Change.TheVariants.{TypeChange, ExecutableBit}
use Rattle.status_index.specs.declared.mode.Mode.{Mode}
use Rattle.status_index.specs.declared.mode.Mode.TheVariants as modes
use Rattle.status_index.specs.declared.stat.Metadata.{Metadata}
use Rattle.status_index.specs.declared.stat.NodeKind.{NodeKind}
use Rattle.status_index.specs.declared.stat.NodeKind.TheVariants as kinds
use Rattle.status_index.specs.Mode.{mode_change, mode_change_at}
use Rattle.status_base.specs.Looked.{IsLookedAt, IsMet, kind_read}
use Rattle.status_base.specs.Sights.{MayStat, IsOpen}
use Rattle.status_compare.specs.declared.error.Error.{Error}
use Rattle.status_call.specs.LookUps.{IfNode, IsNodeMet}
use Rattle.status_call.specs.Status.{reads_link}
use Rattle.status_call.specs.declared.index_as_worktree.lookup.AtPath.{AtPath}
use Rattle.status_call.specs.declared.index_as_worktree.lookup.AtPath.TheVariants.{Nothing, Directory, Node}
use Rattle.status_call.specs.declared.index_as_worktree.lookup.Look.{Look}

-- What holds of the tested path holds of the queried one, if these are the same.
pub open_now : (may : MayStat) (path : List ℕ) {tested : List ℕ} → tested ≡ path → IsOpen may tested → IsOpen may path
open_now may path same opened = subst (IsOpen may) same opened

if_node : {P Q : Metadata → Type 0} (presence : AtPath) → ((n : Metadata) → P n → Q n) → IfNode presence P → IfNode presence Q
if_node Nothing f h = tt
if_node Directory f h = tt
if_node (Node n) f h = f n h

-- The node of a look-up was met if it is the one that was found.
pub met_at : (may : MayStat) (listed : Bool) (path : List ℕ) (n : Metadata) (look : Look) → IsMet may listed path n
    → IfNode look.presence (λ m. (m ≡ n) × (m.kind ≢ kinds.Directory)) → IfNode look.presence (IsNodeMet may listed path)
met_at may listed path n look met =
    if_node look.presence (λ m h. record { met = subst (IsMet may listed path) (sym h.0) met; kind = h.1 })

-- A look-up that found nothing met no node.
pub nothing_met : (P : Metadata → Type 0) (result : Result Look Error) → IfOk result (λ look. look.presence ≡ Nothing) → IfOk result (λ look. IfNode look.presence P)
nothing_met P (Ok look) h = subst (λ (p : AtPath). IfNode p P) (sym h) tt
nothing_met P (Err e) h = tt

merely_at : (A : Type 0) (P : Metadata → Type 0) (presence : AtPath) → ∥ A ∥₁ → (A → IfNode presence P) → IfNode presence (λ n. ∥ P n ∥₁)
merely_at A P Nothing some f = tt
merely_at A P Directory some f = tt
merely_at A P (Node n) some f = ∥∥₁_map some f

-- A node was met, if that follows from a fact of which it is only known that it holds.
pub merely_met : (A : Type 0) (P : Metadata → Type 0) (result : Result Look Error) → ∥ A ∥₁ → (A → IfOk result (λ look. IfNode look.presence P)) → IfOk result (λ look. IfNode look.presence (λ n. ∥ P n ∥₁))
merely_met A P (Ok look) some f = merely_at A P look.presence some f
merely_met A P (Err e) some f = tt

-- The node of a look-up is one of which the fact holds.
pub node_met : (P : Metadata → Type 0) (presence : AtPath) (n : Metadata) → presence ≡ Node n → IfNode presence P → P n
node_met P presence n is h = subst (λ (a : AtPath). IfNode a P) is h

-- A change that isn't one of the type.
abbrev IsSameType : Option Change → Type 0
IsSameType None = ⊤
IsSameType (Some ExecutableBit) = ⊤
IsSameType (Some (TypeChange mode)) = ⊥

-- A node of its entry's type, other than a directory, has the kind that is read.
fits : (symlink x : Bool) (n : Metadata) (mode : Mode) (kind : NodeKind) → IsSameType (mode_change_at symlink x n mode kind) → kind ≢ kinds.Directory → kind ≡ kind_read (reads_link symlink mode kind)
fits symlink x n mode kinds.Directory same other = absurd (other refl)
fits symlink x n modes.File kinds.File same other = refl
fits symlink x n modes.FileExecutable kinds.File same other = refl
fits true x n modes.Symlink kinds.File same other = absurd same
fits false x n modes.Symlink kinds.File same other = refl
fits symlink x n modes.Commit kinds.File same other = refl
fits symlink x n modes.Dir kinds.File same other = refl
fits symlink x n modes.Symlink kinds.Link same other = refl
fits symlink x n modes.File kinds.Link same other = absurd same
fits symlink x n modes.FileExecutable kinds.Link same other = absurd same
fits symlink x n modes.Commit kinds.Link same other = absurd same
fits symlink x n modes.Dir kinds.Link same other = absurd same
fits symlink x n modes.File kinds.Other same other = absurd same
fits symlink x n modes.FileExecutable kinds.Other same other = absurd same
fits symlink x n modes.Symlink kinds.Other same other = absurd same
fits symlink x n modes.Commit kinds.Other same other = absurd same
fits symlink x n modes.Dir kinds.Other same other = absurd same

module _ (may : MayStat) (listed : Bool) (path : List ℕ) (symlink x : Bool) (mode : Mode) (n : Metadata) (met : ∥ IsNodeMet may listed path n ∥₁) where
  looked : IsSameType (mode_change symlink x mode n) → IsLookedAt may listed path n (kind_read (reads_link symlink mode n.kind))
  looked same = ∥∥₁_map met (λ m. record { met = m.met; is = fits symlink x n mode n.kind same m.kind })

  -- A node without a change was met as a node of the kind that is read.
  pub looked_unchanged : mode_change symlink x mode n ≡ None → IsLookedAt may listed path n (kind_read (reads_link symlink mode n.kind))
  looked_unchanged is = looked (subst IsSameType (sym is) tt)

  -- So was one whose executable bit changed.
  pub looked_executable : mode_change symlink x mode n ≡ Some ExecutableBit → IsLookedAt may listed path n (kind_read (reads_link symlink mode n.kind))
  looked_executable is = looked (subst IsSameType (sym is) tt)
