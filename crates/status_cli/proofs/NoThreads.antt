-- The comparers of a profile never return that a thread was refused.
use Rattle.std.proofs.Common.{◌≡◌, ◌≢◌, refl, sym, ap, ◌∙◌, ℕ, Option, Some, Result, Ok, Err}
use Rattle.std.specs.Prelude.{IsTrue}
use Rattle.status_index.specs.declared.id.ObjectId.{ObjectId}
use Rattle.status_compare.specs.declared.error.Error.{Error}
use Rattle.status_compare.specs.declared.error.Error.TheVariants.{SpawnThread}
use Rattle.status_compare.specs.Comparers.{hash_answer, fast_answer, counts_after_hash, counts_after_fast}
use Rattle.status_call.specs.declared.index_as_worktree.types.Outcome.{Outcome}
use Rattle.status_call.specs.Query.{Query}
use Rattle.status_call.specs.Status.{readings}
use Rattle.status_call.specs.StatusOf.{OneThreadSpawnsNone}
use Rattle.status_call.specs.StatusTheorem.{NeverSpawns}
use Rattle.status_call.proofs.NoThread.{ids_law, sizes_law}
use Rattle.status_compare.specs.declared.compare.Comparer.{Comparer}
use Rattle.status_compare.specs.declared.compare.Comparer.TheVariants.{Hash, Fast}
use Rattle.status_compare.specs.NamedComparers.{compared_by, with_new_id, without_new_id}

error_or : {A : Type 0} → Error → Result A Error → Error
error_or d (Ok x) = d
error_or d (Err x) = x

with_id_kept : (r : Result (Option ObjectId) Error) → (r ≡ Err SpawnThread → ⊥) → with_new_id r ≡ Err SpawnThread → ⊥
unfolding error_or
with_id_kept (Ok change) f h = cc
with_id_kept (Err e) f h = f (ap (λ (x : Error). Err x) (ap (λ (r : Result (Option (Option ObjectId)) Error). error_or e r) h))

without_id_kept : (r : Result (Option (Unit {0})) Error) → (r ≡ Err SpawnThread → ⊥) → without_new_id r ≡ Err SpawnThread → ⊥
unfolding error_or
without_id_kept (Ok change) f h = cc
without_id_kept (Err e) f h = f (ap (λ (x : Error). Err x) (ap (λ (r : Result (Option (Option ObjectId)) Error). error_or e r) h))

module _ {U : Type 0} (q : Query (Option ObjectId) U) where
  -- the same query with a comparison of ids
  abbrev hash_query : Query ObjectId U
  hash_query = record {
    modelled = q.modelled;
    stat_options = q.stat_options;
    symlink = q.symlink;
    executable_bit = q.executable_bit;
    timestamp = q.timestamp;
    lstat = q.lstat;
    opened = q.opened;
    linked = q.linked;
    cached = q.cached;
    prefix = q.prefix;
    included = q.included;
    conversion = q.conversion;
    blob = q.blob;
    submodule = q.submodule;
    compared = λ e _ m. hash_answer e m.file;
    counted = λ _ _ m k. Some (counts_after_hash m.file k);
  }

  -- and with one of sizes first
  abbrev size_query : Query (Unit {0}) U
  size_query = record {
    modelled = q.modelled;
    stat_options = q.stat_options;
    symlink = q.symlink;
    executable_bit = q.executable_bit;
    timestamp = q.timestamp;
    lstat = q.lstat;
    opened = q.opened;
    linked = q.linked;
    cached = q.cached;
    prefix = q.prefix;
    included = q.included;
    conversion = q.conversion;
    blob = q.blob;
    submodule = q.submodule;
    compared = λ e n m. fast_answer e n m.file;
    counted = λ e n m k. Some (counts_after_fast e n m.file k);
  }

  never_spawns : (c : Comparer) → q.compared ≡ compared_by c → NeverSpawns q
  never_spawns Hash is e n h = with_id_kept _ (ids_law hash_query refl e n) (sym (ap (λ f. f e n.len (readings q e n)) is) ∙ h)
  never_spawns Fast is e n h = without_id_kept _ (sizes_law size_query refl e n) (sym (ap (λ f. f e n.len (readings q e n)) is) ∙ h)

  -- with one worker no thread is refused
  pub lone_comparers : (c : Comparer) → q.compared ≡ compared_by c → (limit : Option ℕ) (answer : Result Outcome Error) → OneThreadSpawnsNone q limit answer → IsTrue q.modelled → limit ≡ Some 1 → answer ≢ Err SpawnThread
  lone_comparers c is limit answer alone modelled one = alone modelled one (never_spawns c is)
