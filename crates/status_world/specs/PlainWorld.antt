-- The plain world: which files and links there are, and what was staged last. It has no clock, stat or timestamp.
use Rattle.std.specs.Prelude.{◌≡◌, ◌≢◌, ◌⊎◌, ℕ, Bool, false, List, Option, Some, None, IsTrue, ⊤}
use Rattle.std.specs.FinMap as paths
use Rattle.bstr.specs.Owned.{bstring_bytes}
use Rattle.status_index.specs.declared.stat.NodeKind.{NodeKind}
use Rattle.status_index.specs.declared.stat.NodeKind.TheVariants.{File, Link, Directory, Other}
use Rattle.status_base.specs.MemoryTree.{PathMap}
use Rattle.status_world.specs.declared.world.event.Event.{Event}
use Rattle.status_world.specs.declared.world.event.Event.TheVariants as events

-- A file with its content and whether it is executable, or a link with its target.
pub record Plain : Type 0 where
  pub kind : NodeKind
  pub bytes : List ℕ
  pub executable : Bool

-- What is at each path, and what was staged last.
pub record PlainWorld : Type 0 where
  pub files : PathMap Plain
  pub staged : PathMap Plain

-- The world without files, links and staged paths.
abbrev pub empty_plain : PlainWorld
empty_plain = record { files = paths.empty; staged = paths.empty }

-- A map in which a path has this value, or none.
abbrev pub with_value : {A : Type 0} → PathMap A → List ℕ → Option A → PathMap A
with_value m path (Some v) = paths.insert m path v
with_value m path None = paths.remove m path

-- Whether a file is executable. Other nodes aren't.
abbrev pub executable_of_kind : NodeKind → Bool → Bool
executable_of_kind File executable = executable
executable_of_kind Link executable = false
executable_of_kind Directory executable = false
executable_of_kind Other executable = false

-- Whether an executable file is at a path.
abbrev pub was_executable : Option Plain → Bool
was_executable (Some f) = executable_of_kind f.kind f.executable
was_executable None = false

-- A file with this executability, if there is one.
abbrev pub with_executable : Bool → Option Plain → Option Plain
with_executable executable (Some f) = Some (record f { executable = executable })
with_executable executable None = None

-- The plain world after an event. A file that is written again keeps its executability. Staging copies the file or link, or
-- removes the staged path if there is none.
abbrev pub plain_after : Event → PlainWorld → PlainWorld
plain_after (events.Write path bytes) w = record w {
  files = with_value w.files (bstring_bytes path)
      (Some (record { kind = File; bytes = bytes.items; executable = was_executable (paths.get w.files (bstring_bytes path)) }));
}
plain_after (events.Link path target) w = record w {
  files = with_value w.files (bstring_bytes path) (Some (record { kind = Link; bytes = target.items; executable = false }));
}
plain_after (events.SetExecutable path executable) w = record w {
  files = with_value w.files (bstring_bytes path) (with_executable executable (paths.get w.files (bstring_bytes path)));
}
plain_after (events.Remove path) w = record w { files = with_value w.files (bstring_bytes path) None }
plain_after (events.Stage path) w = record w {
  staged = with_value w.staged (bstring_bytes path) (paths.get w.files (bstring_bytes path));
}
plain_after (events.Tick n) w = w
plain_after (events.TickNanos n) w = w
plain_after (events.Run comparer chunk_size thread_limit stamp) w = w

-- Both are files, and one is executable and the other isn't.
abbrev pub IsExecutableChange : Plain → Plain → Type 0
IsExecutableChange now was = (now.kind ≡ File) × (was.kind ≡ File) × (now.executable ≢ was.executable)

-- Nothing is there, or its kind, its bytes or, if counted, its executability differ from what was staged.
abbrev pub Differs : Bool → Option Plain → Plain → Type 0
Differs executable_bit None was = ⊤
Differs executable_bit (Some now) was =
    (now.kind ≢ was.kind) ⊎ ((now.bytes ≢ was.bytes) ⊎ (IsTrue executable_bit × IsExecutableChange now was))

-- Something was staged, and what is there now differs from it.
abbrev pub DiffersFrom : Bool → Option Plain → Option Plain → Type 0
DiffersFrom executable_bit now None = ⊥
DiffersFrom executable_bit now (Some was) = Differs executable_bit now was

-- Nothing is at a staged path, or its kind, bytes or, if counted, a file's executability differ.
abbrev pub DiffersAt : Bool → PlainWorld → List ℕ → Type 0
DiffersAt executable_bit w path = DiffersFrom executable_bit (paths.get w.files path) (paths.get w.staged path)
