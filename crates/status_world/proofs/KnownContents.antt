-- The contents of a world are known, and known contents with equal ids are equal.
use Rattle.std.proofs.Common.{◌≡◌, inl, refl, sym, subst, ℕ, Bool, true, false, List, [], Option, Some, None, option_map, IfSome, if◌then◌else◌}
use Rattle.std.specs.FinMap as paths
use Rattle.bstr.specs.Owned.{bstring_bytes}
use Rattle.status_index.specs.declared.id.HashKind.{HashKind}
use Rattle.status_index.specs.BlobId.{blob_id}
use Rattle.status_index.specs.declared.stat.NodeKind.TheVariants.{File, Link}
use Rattle.status_base.specs.MemoryTree.{Placed}
use Rattle.status_world.specs.declared.world.event.Event.{Event}
use Rattle.status_world.specs.declared.world.event.Event.TheVariants as events
use Rattle.status_world.specs.Events.{contents_at}
use Rattle.status_world.specs.History.{IsIn}
use Rattle.status_world.specs.PlainWorld.{Plain}
use Rattle.status_world.specs.StampedWorld.{StampedWorld, node_at, with_node, stored_node, plain_of, is_stored_kind, with_executability, written, is_executable_at, after_event}
use Rattle.status_world.proofs.Pairs.{HasOwnIds}
use Rattle.status_world.proofs.PathCases.{each_with}

module _ (K : List ℕ → Type 0) where
  -- All contents of a world are known, and the empty one.
  pub record KnowsContents (w : StampedWorld) : Type 0 where
    pub nodes : (q : List ℕ) → IfSome (node_at w q) (λ n. K n.bytes)
    pub staged : (q : List ℕ) → IfSome (paths.get w.staged q) (λ s. K s.bytes)
    pub empty : K []

  -- The contents of an event are known.
  abbrev pub BringsKnown : Event → Type 0
  BringsKnown e = (x : List ℕ) → IsIn x (contents_at e) → K x

  -- Known contents with equal ids are equal.
  abbrev pub AreDistinct : HashKind → Type 0
  AreDistinct kind = (a b : List ℕ) → K a → K b → blob_id kind a ≡ blob_id kind b → a ≡ b

  of_some : {A : Type 0} (P : A → Type 0) (o : Option A) (x : A) → o ≡ Some x → IfSome o P → P x
  of_some P o x e h = subst (λ r. IfSome r P) e h

  pub own_ids : (w : StampedWorld) → AreDistinct w.kind → KnowsContents w → (q : List ℕ) (n : Placed) (s : Plain) → node_at w q ≡ Some n → paths.get w.staged q ≡ Some s → HasOwnIds w n s
  own_ids w distinct known q n s there was =
      let node : K n.bytes = of_some (λ (m : Placed). K m.bytes) (node_at w q) n there (known.nodes q) in
      let staged : K s.bytes = of_some (λ (t : Plain). K t.bytes) (paths.get w.staged q) s was (known.staged q) in
      record { bytes = λ same. distinct s.bytes n.bytes staged node same; empty = λ same. distinct s.bytes [] staged known.empty same }

  -- ---- after an event

  known_with : (w : StampedWorld) (p : List ℕ) (v : Option Placed) → IfSome v (λ n. K n.bytes) → KnowsContents w → KnowsContents (with_node w p v)
  known_with w p v here known = record {
    nodes = each_with w.tree.nodes p v (λ q o. IfSome o (λ n. K n.bytes)) here known.nodes;
    staged = known.staged;
    empty = known.empty;
  }

  kept_bytes : (f : Placed → Placed) → ((n : Placed) → (f n).bytes ≡ n.bytes) → (o : Option Placed) → IfSome o (λ n. K n.bytes) → IfSome (option_map f o) (λ n. K n.bytes)
  kept_bytes f same None h = tt
  kept_bytes f same (Some n) h = subst K (sym (same n)) h

  stored_either : (n : Placed) (b : Bool) → K n.bytes → IfSome (option_map plain_of (if b then Some n else None)) (λ s. K s.bytes)
  stored_either n true h = h
  stored_either n false h = tt

  known_staged : (o : Option Placed) → IfSome o (λ n. K n.bytes) → IfSome (option_map plain_of (stored_node o)) (λ s. K s.bytes)
  known_staged None h = tt
  known_staged (Some n) h = stored_either n (is_stored_kind n.metadata.kind) h

  pub known_after : (e : Event) (w : StampedWorld) → BringsKnown e → KnowsContents w → KnowsContents (after_event e w)
  known_after (events.Tick n) w brings known = record { nodes = known.nodes; staged = known.staged; empty = known.empty }
  known_after (events.TickNanos n) w brings known = record { nodes = known.nodes; staged = known.staged; empty = known.empty }
  known_after (events.Write path bytes) w brings known =
      known_with w (bstring_bytes path) (Some (written w.clock File (is_executable_at (node_at w (bstring_bytes path))) bytes.items)) (brings bytes.items (inl refl)) known
  known_after (events.Link path target) w brings known =
      known_with w (bstring_bytes path) (Some (written w.clock Link false target.items)) (brings target.items (inl refl)) known
  known_after (events.SetExecutable path executable) w brings known =
      known_with w (bstring_bytes path) (option_map (with_executability w.clock executable) (node_at w (bstring_bytes path)))
      (kept_bytes (with_executability w.clock executable) (λ n. refl) (node_at w (bstring_bytes path)) (known.nodes (bstring_bytes path))) known
  known_after (events.Remove path) w brings known = known_with w (bstring_bytes path) None tt known
  known_after (events.Stage path) w brings known = record {
    nodes = known.nodes;
    staged = each_with w.staged (bstring_bytes path) (option_map plain_of (stored_node (node_at w (bstring_bytes path)))) (λ q o. IfSome o (λ s. K s.bytes))
        (known_staged (node_at w (bstring_bytes path)) (known.nodes (bstring_bytes path))) known.staged;
    empty = known.empty;
  }
  known_after (events.Run comparer chunk_size thread_limit stamp) w brings known = record { nodes = known.nodes; staged = known.staged; empty = known.empty }
