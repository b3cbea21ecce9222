-- A stamped world and its plain world still agree after each event.
use Rattle.std.proofs.Common.{◌≡◌, refl, sym, ap, ◌∙◌, ℕ, Bool, true, false, cond, List, [], ◌∷◌, map, Option, Some, None, option_map, IfSome}
use Rattle.std.specs.Ordering.{nat_cmp}
use Rattle.std.specs.Cmp.Lexicographic.{slice_cmp}
use Rattle.std.specs.FinMap as paths
use Rattle.std.proofs.lemmas.Cmp.{nat_list_cmp_total}
use Rattle.bstr.specs.Owned.{bstring_bytes}
use Rattle.status_index.specs.declared.stat.NodeKind.{NodeKind}
use Rattle.status_index.specs.declared.stat.NodeKind.TheVariants.{File, Link, Directory, Other}
use Rattle.status_base.specs.MemoryTree.{Placed, PathMap}
use Rattle.status_world.specs.declared.world.event.Event.{Event}
use Rattle.status_world.specs.declared.world.event.Event.TheVariants as events
use Rattle.status_world.specs.History.{plain_world_of}
use Rattle.status_world.specs.PlainWorld.{Plain, PlainWorld, with_value, executable_of_kind, was_executable, with_executable, plain_after}
use Rattle.status_world.specs.Refusals.{refusal_of, is_regular_file, is_file_kind}
use Rattle.status_world.specs.Sound.{IsFormed, IsFormedNode}
use Rattle.status_world.specs.StampedWorld.{StampedWorld, node_at, entry_of_path, written, is_executable_at, with_executability, stored_node, plain_of, after_event}
use Rattle.status_world.proofs.EntryLists.{is_path}
use Rattle.status_world.proofs.EntryVerdicts.{node_of_at}
use Rattle.status_world.proofs.Formed.{stored_formed}
use Rattle.status_world.proofs.FormedWorlds.{not_a_file}
use Rattle.status_world.proofs.TreeLaws.{get-with}

-- The plain world has the file or link at each path, and what was staged.
pub record Shows (w : StampedWorld) (p : PlainWorld) : Type 0 where
  pub files : (q : List ℕ) → paths.get p.files q ≡ option_map plain_of (node_at w q)
  pub staged : p.staged ≡ w.staged

-- ---- the plain world of a world

find-plain : (es : List (List ℕ × Placed)) (q : List ℕ) → paths.find (slice_cmp nat_cmp) q (map (λ e. (e.0, plain_of e.1)) es) ≡ option_map plain_of (paths.find (slice_cmp nat_cmp) q es)
find-plain [] q = refl
find-plain (e ∷ es) q =
    elim (is_path q e.0) as (λ b. cond b (Some (plain_of e.1)) (paths.find (slice_cmp nat_cmp) q (map (λ e. (e.0, plain_of e.1)) es)) ≡ option_map plain_of (cond b (Some e.1) (paths.find (slice_cmp nat_cmp) q es))) [
      | true ↦ refl
      | false ↦ find-plain es q
    ]

pub shows_plain : (w : StampedWorld) → Shows w (plain_world_of w)
shows_plain w = record {
  files = λ q.
      paths.get-from_entries nat_list_cmp_total (map (λ e. (e.0, plain_of e.1)) (paths.entries w.tree.nodes)) q
      ∙ find-plain (paths.entries w.tree.nodes) q
      ∙ ap (option_map plain_of) (sym (paths.get-entries w.tree.nodes q));
  staged = refl;
}

-- ---- after an event

shown_either : (b : Bool) (v here : Option Plain) (n there : Option Placed) → v ≡ option_map plain_of n → here ≡ option_map plain_of there → cond b v here ≡ option_map plain_of (cond b n there)
shown_either true v here n there new old = new
shown_either false v here n there new old = old

-- Another file, and its node.
shown_with : (files : PathMap Plain) (nodes : PathMap Placed) (p : List ℕ) (v : Option Plain) (n : Option Placed) → v ≡ option_map plain_of n
    → ((q : List ℕ) → paths.get files q ≡ option_map plain_of (paths.get nodes q))
    → (q : List ℕ) → paths.get (with_value files p v) q ≡ option_map plain_of (paths.get (with_value nodes p n) q)
shown_with files nodes p v n new old q =
    get-with files p v q
    ∙ shown_either (is_path q p) v (paths.get files q) n (paths.get nodes q) new (old q)
    ∙ ap (option_map plain_of) (sym (get-with nodes p n q))

executable_once : (k : NodeKind) (executable : Bool) → executable_of_kind k (executable_of_kind k executable) ≡ executable_of_kind k executable
executable_once File executable = refl
executable_once Link executable = refl
executable_once Directory executable = refl
executable_once Other executable = refl

was_shown : (o : Option Placed) → was_executable (option_map plain_of o) ≡ is_executable_at o
was_shown None = refl
was_shown (Some n) = executable_once n.metadata.kind n.metadata.executable

of_file : (k : NodeKind) (executable : Bool) → is_file_kind k ≡ true → executable ≡ executable_of_kind k executable
of_file File executable h = refl
of_file Link executable h = cc
of_file Directory executable h = cc
of_file Other executable h = cc

set_shown : (w : StampedWorld) (executable : Bool) (o : Option Placed) → is_regular_file o ≡ true → with_executable executable (option_map plain_of o) ≡ option_map plain_of (option_map (with_executability w.clock executable) o)
set_shown w executable None h = cc
set_shown w executable (Some n) h =
    ap (λ (b : Bool). Some (record (plain_of n) { executable = b })) (of_file n.metadata.kind executable h)

stored_shown : (w : StampedWorld) (o : Option Placed) → IfSome o (IsFormedNode w.clock) → stored_node o ≡ o
stored_shown w None h = refl
stored_shown w (Some n) h = stored_formed w.clock n h

pub shows_after : (e : Event) (w : StampedWorld) (p : PlainWorld) → refusal_of e w ≡ None → IsFormed w → Shows w p → Shows (after_event e w) (plain_after e p)
shows_after (events.Tick n) w p h f shows = record { files = shows.files; staged = shows.staged }
shows_after (events.TickNanos n) w p h f shows = record { files = shows.files; staged = shows.staged }
shows_after (events.Write path bytes) w p h f shows =
    let at : List ℕ = bstring_bytes path in
    let same : was_executable (paths.get p.files at) ≡ is_executable_at (node_at w at) = ap was_executable (shows.files at) ∙ was_shown (node_at w at) in
    let file : Bool → Option Plain = λ b. Some (record { kind = File; bytes = bytes.items; executable = b }) in
    record {
      files = shown_with p.files w.tree.nodes at (file (was_executable (paths.get p.files at))) (Some (written w.clock File (is_executable_at (node_at w at)) bytes.items)) (ap file same) shows.files;
      staged = shows.staged;
    }
shows_after (events.Link path target) w p h f shows = record {
  files = shown_with p.files w.tree.nodes (bstring_bytes path) _ (Some (written w.clock Link false target.items)) refl shows.files;
  staged = shows.staged;
}
shows_after (events.SetExecutable path executable) w p h f shows =
    let at : List ℕ = bstring_bytes path in
    record {
      files = shown_with p.files w.tree.nodes at (with_executable executable (paths.get p.files at)) (option_map (with_executability w.clock executable) (node_at w at))
          (ap (with_executable executable) (shows.files at) ∙ set_shown w executable (node_at w at) (not_a_file w path executable h)) shows.files;
      staged = shows.staged;
    }
shows_after (events.Remove path) w p h f shows = record {
  files = shown_with p.files w.tree.nodes (bstring_bytes path) None None refl shows.files;
  staged = shows.staged;
}
shows_after (events.Stage path) w p h f shows =
    let at : List ℕ = bstring_bytes path in
    let node : IfSome (node_at w at) (IsFormedNode w.clock) = node_of_at w (node_at w at) (entry_of_path at w.entries) (paths.get w.staged at) (f.at at) in
    let same : paths.get p.files at ≡ option_map plain_of (stored_node (node_at w at)) = shows.files at ∙ ap (option_map plain_of) (sym (stored_shown w (node_at w at) node)) in
    record {
      files = shows.files;
      staged = ap (λ m. with_value m at (paths.get p.files at)) shows.staged ∙ ap (with_value w.staged at) same;
    }
shows_after (events.Run comparer chunk_size thread_limit stamp) w p h f shows = record { files = shows.files; staged = shows.staged }
