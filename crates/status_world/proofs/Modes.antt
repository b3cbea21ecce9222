-- The mode change of a node, for an entry of what was staged.
use Rattle.std.proofs.Common.{◌≡◌, ◌≢◌, refl, Bool, true, false, Option, Some, None, IsTrue}
use Rattle.status_index.specs.declared.stat.NodeKind.{NodeKind}
use Rattle.status_index.specs.declared.stat.NodeKind.TheVariants.{File, Link, Directory, Other}
use Rattle.status_index.specs.declared.mode.Mode.{Mode}
use Rattle.status_index.specs.declared.mode.Change.{Change as ModeChange}
use Rattle.status_index.specs.declared.mode.Change.TheVariants.{TypeChange, ExecutableBit}
use Rattle.status_index.specs.Mode.{mode_change, new_mode}
use Rattle.status_base.specs.MemoryTree.{Placed}
use Rattle.status_world.specs.PlainWorld.{Plain, IsExecutableChange}
use Rattle.status_world.specs.StampedWorld.{is_stored_kind, plain_of}

-- A mode change: to another kind; otherwise of executability, if that counts and differs; otherwise none.
pub data ModeCase (executable_bit : Bool) (now was : Plain) (change : Option ModeChange) : Type 0 where
  other_kind : (mode : Mode) → now.kind ≢ was.kind → change ≡ Some (TypeChange mode) → ModeCase executable_bit now was change
  other_bit : now.kind ≡ was.kind → IsTrue executable_bit → IsExecutableChange now was → change ≡ Some ExecutableBit → ModeCase executable_bit now was change
  same_mode : now.kind ≡ was.kind → (IsTrue executable_bit → IsExecutableChange now was → ⊥) → change ≡ None → ModeCase executable_bit now was change

-- A node with this kind and executability.
abbrev node_with : Placed → NodeKind → Bool → Placed
node_with n kind executable = record n { metadata = record n.metadata { kind = kind; executable = executable } }

abbrev plain_with : Plain → NodeKind → Bool → Plain
plain_with s kind executable = record s { kind = kind; executable = executable }

mode_case_of : (x : Bool) (n : Placed) (s : Plain) (nk : NodeKind) (nx : Bool) (sk : NodeKind) (sx : Bool) → IsTrue (is_stored_kind nk) → IsTrue (is_stored_kind sk)
    → ModeCase x (plain_of (node_with n nk nx)) (plain_with s sk sx) (mode_change true x (new_mode x sk sx) (node_with n nk nx).metadata)
mode_case_of true n s File true File true p q = same_mode refl (λ _ h. h.2 refl) refl
mode_case_of true n s File true File false p q = other_bit refl refl (refl, refl, λ e. cc) refl
mode_case_of true n s File false File true p q = other_bit refl refl (refl, refl, λ e. cc) refl
mode_case_of true n s File false File false p q = same_mode refl (λ _ h. h.2 refl) refl
mode_case_of false n s File true File true p q = same_mode refl (λ e _. cc) refl
mode_case_of false n s File true File false p q = same_mode refl (λ e _. cc) refl
mode_case_of false n s File false File true p q = same_mode refl (λ e _. cc) refl
mode_case_of false n s File false File false p q = same_mode refl (λ e _. cc) refl
mode_case_of x n s File nx Link sx p q = other_kind _ (λ e. cc) refl
mode_case_of true n s Link nx File true p q = other_kind _ (λ e. cc) refl
mode_case_of true n s Link nx File false p q = other_kind _ (λ e. cc) refl
mode_case_of false n s Link nx File true p q = other_kind _ (λ e. cc) refl
mode_case_of false n s Link nx File false p q = other_kind _ (λ e. cc) refl
mode_case_of x n s Link nx Link sx p q = same_mode refl (λ _ h. cc (h.0)) refl
mode_case_of x n s Directory nx sk sx p q = absurd (cc)
mode_case_of x n s Other nx sk sx p q = absurd (cc)
mode_case_of x n s nk nx Directory sx p q = absurd (cc)
mode_case_of x n s nk nx Other sx p q = absurd (cc)

-- The mode change of a node, by cases.
pub mode_case : (executable_bit : Bool) (n : Placed) (s : Plain) → IsTrue (is_stored_kind n.metadata.kind) → IsTrue (is_stored_kind s.kind)
    → ModeCase executable_bit (plain_of n) s (mode_change true executable_bit (new_mode executable_bit s.kind s.executable) n.metadata)
mode_case x n s p q = mode_case_of x n s n.metadata.kind n.metadata.executable s.kind s.executable p q
