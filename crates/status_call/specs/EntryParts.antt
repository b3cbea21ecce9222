-- The parts of an entry's decision.
use Rattle.std.specs.Prelude.{◌≡◌, ◌⊎◌, ℕ, Bool, false, not, ◌&&◌, List, Option, IfSome, is_some, Result, Ok, Err, IsTrue, if◌then◌else◌}
use Rattle.bstr.specs.BStr.{bstr_bytes}
use Rattle.status_index.specs.Entries.{IndexEntry, entry_at}
use Rattle.status_index.specs.Stat.{is_racy}
use Rattle.status_index.specs.declared.fault.Fault.{Fault}
use Rattle.status_index.specs.declared.stat.Metadata.{Metadata}
use Rattle.status_index.specs.declared.stat.Stat.{Stat}
use Rattle.status_compare.specs.declared.error.Error.{Error}
use Rattle.status_compare.specs.declared.error.Error.TheVariants.{Memory}
use Rattle.status_compare.specs.declared.read_data.Reads.{Reads}
use Rattle.status_compare.specs.Errors.{error_of}
use Rattle.status_compare.specs.Reads.{HasRead, no_reads}
use Rattle.status_call.specs.declared.index_as_worktree.step.Decided.{Decided}
use Rattle.status_call.specs.declared.index_as_worktree.lookup.Look.{Look}
use Rattle.status_call.specs.declared.index_as_worktree.lookup.AtPath.{AtPath}
use Rattle.status_call.specs.declared.index_as_worktree.lookup.AtPath.TheVariants as presences
use Rattle.status_call.specs.declared.index_as_worktree.content.Candidate.{Candidate}
use Rattle.status_call.specs.declared.index_as_worktree.content.Comparison.{Comparison}
use Rattle.status_base.specs.LinkCheck.{link_check}
use Rattle.status_call.specs.Counts.{is_accepted, is_racy_case, is_compared_case}
use Rattle.status_call.specs.Query.{Query}
use Rattle.status_call.specs.Status.{Found, nothing, refused, directory, present, Case, compared, answer, found_by, cached_or, case_of_found, case_of_content, is_trusted, readings}

-- The index entry of a candidate.
abbrev pub candidate_entry : Candidate → IndexEntry
candidate_entry c = entry_at (bstr_bytes c.path) c.entry.now

-- The node at a path, from a look-up's result.
abbrev pub found_presence : AtPath → Found
found_presence presences.Nothing = nothing
found_presence presences.Directory = directory
found_presence (presences.Node n) = present n

-- The specified node and whether `lstat` was called; the specified fault; or out of memory.
abbrev pub IsLook : Found → Bool → Result Look Error → Type 0
IsLook found called (Ok look) = (found ≡ found_presence look.presence) × (look.lstat_called ≡ called)
IsLook found called (Err e) = ((f : Fault) × (found ≡ refused f) × (e ≡ error_of f)) ⊎ (e ≡ Memory)

-- The look-up of a path, by the results of `lstat` and by the node that listings know.
abbrev pub IsLookAt : (List ℕ → Result Metadata Fault) → Option Metadata → List ℕ
    → Result Look Error → Type 0
IsLookAt lstat known path result =
    IsLook (found_by (link_check lstat path) (cached_or known (lstat path)))
    (is_accepted (link_check lstat path) && not (is_some known)) result

-- The result of a case, and its work: whether `lstat` was called, and the comparer's reads if it is called.
pub record IsOfCase {T U : Type 0} (path : List ℕ) (case : Case T U) (called : Bool)
    (counted : Option Reads) (d : Decided T U) : Type 0 where
  pub status : answer path case ≡ Ok d.status
  pub lstat_called : d.lstat_called ≡ called
  pub racy : d.racy ≡ is_racy_case case
  pub reads : IfSome counted (λ k. d.reads ≡ (if is_compared_case case then k else no_reads))

-- The decision of a case, its error, or out of memory.
abbrev pub IsCaseDecided : {T U : Type 0} → List ℕ → Case T U → Bool → Option Reads
    → Result (Decided T U) Error → Type 0
IsCaseDecided path case called counted (Ok d) = IsOfCase path case called counted d
IsCaseDecided path case called counted (Err x) = (answer path case ≡ Err x) ⊎ (x ≡ Memory)

-- The comparer's result, and its reads if they are modelled; its error; or out of memory.
abbrev pub IsComparison : {T : Type 0} → Result (Option T) Error → Option Reads → Result (Comparison T) Error → Type 0
IsComparison specified counted (Ok c) = (specified ≡ Ok c.change) × HasRead counted c.reads
IsComparison specified counted (Err x) = (specified ≡ Err x) ⊎ (x ≡ Memory)

-- The decision by a comparison, for an entry whose node has this stat.
abbrev pub IsDecisionOf : {T U : Type 0} → Comparison T → Stat → Bool → Bool → Bool → Decided T U
    → Type 0
IsDecisionOf c stat executable_changed trusted racy d =
    (path : List ℕ) (counted : Option Reads) → IfSome counted (λ k. c.reads ≡ k)
    → IsOfCase path (compared executable_changed trusted racy stat (Ok c.change)) false counted d

module _ {T U : Type 0} (q : Query T U) (e : IndexEntry) (n : Metadata) where
  -- The comparer's reads of an entry and its node.
  abbrev pub counted_of : Option Reads
  counted_of = q.counted e n.len (readings q e n) no_reads

  -- The decision of an entry whose path has this node. It calls `lstat` no more.
  abbrev pub IsNodeDecided : Result (Decided T U) Error → Type 0
  IsNodeDecided result =
      IsTrue q.modelled
      → IsCaseDecided e.path (case_of_found q e (present n)) false counted_of result

  -- The same if the node has the entry's type and this stat.
  abbrev pub IsContentDecided : Stat → Bool → Result (Decided T U) Error → Type 0
  IsContentDecided s executable_changed result =
      IsTrue q.modelled → IsCaseDecided e.path
      (case_of_content q e n s executable_changed (is_trusted q e s)
      (is_racy q.stat_options q.timestamp s))
      false counted_of result

  -- The comparison of an entry's content with its node's.
  abbrev pub IsContentCompared : Result (Comparison T) Error → Type 0
  IsContentCompared result =
      IsTrue q.modelled → IsComparison (q.compared e n.len (readings q e n)) counted_of result
