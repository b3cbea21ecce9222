-- The view of an entry: a result of each call that may be made for it, over any worktree. The status of an entry by its view.
use Rattle.std.specs.Prelude.{ℕ, true, List, All, Option, Some, None, unwrap_or, Result, Ok, Err}
use Rattle.status_index.specs.Content.{Content}
use Rattle.status_index.specs.declared.fault.Fault.{Fault}
use Rattle.status_index.specs.declared.fault.Fault.TheVariants as faults
use Rattle.status_index.specs.declared.stat.Metadata.{Metadata}
use Rattle.status_index.specs.Entries.{IndexEntry}
use Rattle.status_base.specs.declared.worktree.objects.FindError.{FindError}
use Rattle.status_base.specs.declared.worktree.objects.FindError.TheVariants as finds
use Rattle.status_compare.specs.declared.error.Error.{Error}
use Rattle.status_compare.specs.declared.read_data.Reads.{Reads}
use Rattle.status_compare.specs.Reads.{no_reads}
use Rattle.status_call.specs.Decisions.{IsDecided}
use Rattle.status_call.specs.declared.index_as_worktree.step.Decided.{Decided}
use Rattle.status_call.specs.Query.{Query}

-- A result of each call that may be made for one entry. `U` is the type of a submodule's report of a change.
pub record View (U : Type 0) : Type 0 where
  -- Of `lstat`, at the directories above the entry's path and at the path itself.
  pub lstat : List ℕ → Result Metadata Fault
  -- The node that a listing knows at the path.
  pub listed : Option Metadata
  -- Of the submodule.
  pub submodule : Result (Option U) (List ℕ)
  -- Of opening the file and reading its content, of reading the link, and of finding the entry's blob.
  pub opened : Result Content Fault
  pub linked : Result (List ℕ) Fault
  pub blob : Result (List ℕ) FindError
  -- The counts of reads, for a comparer that doesn't specify them.
  pub reads : Reads

-- Which views of an entry are allowed.
abbrev pub Allows : Type 0 → Type 1
Allows U = IndexEntry → View U → Type 0

-- A view of each entry.
abbrev pub Views : Type 0 → Type 0
Views U = IndexEntry → View U

module _ {U : Type 0} where
  -- The view of an entry for which memory ran out.
  abbrev pub nothing_seen : View U
  nothing_seen = record {
    lstat = λ _. Err faults.Memory;
    listed = None;
    submodule = Ok None;
    opened = Err faults.Memory;
    linked = Err faults.Memory;
    blob = Err finds.Memory;
    reads = no_reads;
  }

  -- The view of each of these entries is allowed.
  abbrev pub AllAllowed : Allows U → List IndexEntry → Views U → Type 0
  AllAllowed may es views = All (λ e. may e (views e)) es

  -- What one value is allowed to see, another is.
  abbrev pub SeesWithin : Allows U → Allows U → Type 0
  SeesWithin less more = (e : IndexEntry) (v : View U) → less e v → more e v

module _ {T U : Type 0} where
  -- The query whose worktree, blobs, submodules and listings return for each entry the results of its view. The filter and the
  -- comparer are those of the query.
  abbrev pub as_seen : Query T U → Views U → Query T U
  as_seen q views = record q {
    modelled = true;
    lstat = λ e. (views e).lstat;
    opened = λ e. (views e).opened;
    linked = λ e. (views e).linked;
    cached = λ e. (views e).listed;
    blob = λ e. (views e).blob;
    submodule = λ e. (views e).submodule;
    counted = λ e len readings before. Some (unwrap_or (q.counted e len readings before) (views e).reads);
  }

  -- The decision of an entry is the specified one for an allowed view of it.
  pub record IsSeenDecided (may : Allows U) (q : Query T U) (e : IndexEntry) (result : Result (Decided T U) Error) : Type 0 where
    pub view : View U
    pub allowed : may e view
    pub decided : IsDecided (as_seen q (λ _. view)) e result
