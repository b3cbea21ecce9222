-- The cases of an entry's decision.
use Rattle.std.proofs.Common.{◌≡◌, ◌⊎◌, inl, inr, refl, sym, ap, ◌∙◌, subst, ℕ, List, Bool, true, false, not, ◌&&◌, ◌||◌, Option, Some, None, is_some, unwrap_or, Result, Ok, Err, IfSome, IsTrue, if◌then◌else◌}
use Rattle.status_index.specs.declared.fault.Fault.{Fault}
use Rattle.status_index.specs.declared.fault.Fault.TheVariants as faults
use Rattle.status_index.specs.declared.stat.Metadata.{Metadata}
use Rattle.status_index.specs.Answer.{IsAnswer}
use Rattle.status_index.specs.Entries.{IndexEntry}
use Rattle.status_index.specs.Stat.{is_racy}
use Rattle.status_index.specs.declared.stat.Stat.{Stat}
use Rattle.bstr.specs.declared.bstr.BStr.{BStr}
use Rattle.bstr.specs.BStr.{bstr_bytes}
use Rattle.status_base.specs.declared.stack.error.StackError.{StackError}
use Rattle.status_base.specs.declared.stack.error.StackError.TheVariants as stacks
use Rattle.status_base.specs.LinkCheck.{LinkCheck, accepted, empty_path, not_normal}
use Rattle.status_base.specs.CheckAnswers.{IsCheckError}
use Rattle.status_compare.specs.declared.error.Error.{Error}
use Rattle.status_compare.specs.declared.error.Error.TheVariants as errors
use Rattle.status_compare.specs.EntryReadings.{if_modelled}
use Rattle.status_compare.specs.Reading.{Readings}
use Rattle.status_compare.specs.declared.read_data.Reads.{Reads}
use Rattle.status_compare.specs.Reads.{no_reads}
use Rattle.status_call.specs.declared.index_as_worktree.lookup.Look.{Look}
use Rattle.status_call.specs.declared.index_as_worktree.lookup.AtPath.TheVariants as presences
use Rattle.status_call.specs.declared.index_as_worktree.step.Decided.{Decided}
use Rattle.status_call.specs.Counts.{is_accepted, is_racy_case, is_compared_case, calls_lstat, reads_of_found, ModelsReads}
use Rattle.status_call.specs.Decisions.{IsDecided}
use Rattle.status_call.specs.EntryParts.{IsLook, found_presence, IsOfCase, IsCaseDecided}
use Rattle.status_call.specs.Modelled.{all_modelled}
use Rattle.status_call.specs.Query.{Query}
use Rattle.status_call.specs.Status.{Found, cached_or, found_by, found_node, refused, present, Case, compared, answer, found, readings, is_trusted, case_of_found, case_of_content}

-- If all is modelled, each interface is.
pub all_worktree : (a b c d : Bool) → IsTrue (all_modelled a b c d) → IsTrue a
all_worktree true b c d t = refl
all_worktree false b c d t = absurd (cc)

pub all_submodule : (a b c d : Bool) → IsTrue (all_modelled a b c d) → IsTrue c
all_submodule true true true d t = refl
all_submodule true true false d t = absurd (cc)
all_submodule true false c d t = absurd (cc)
all_submodule false b c d t = absurd (cc)

pub all_specified : (a b c d : Bool) (m : Readings) → IsTrue (all_modelled a b c d) → if_modelled a b m ≡ Some m
all_specified true true c d m t = refl
all_specified true false c d m t = absurd (cc)
all_specified false b c d m t = absurd (cc)

pub all_listings : (a b c d : Bool) → IsTrue (all_modelled a b c d) → IsTrue d
all_listings true true true d t = t
all_listings true true false d t = absurd (cc)
all_listings true false c d t = absurd (cc)
all_listings false b c d t = absurd (cc)

-- A look-up by an equal check.
pub site_at : (specified check : LinkCheck) (node : Result Metadata Fault) (unknown : Bool) (r : Result Look Error) → check ≡ specified
    → IsLook (found_by specified node) (is_accepted specified && unknown) r → IsLook (found_by check node) (is_accepted check && unknown) r
site_at specified check node unknown r same h =
    let P : LinkCheck → Type 0 = λ k. IsLook (found_by k node) (is_accepted k && unknown) r in subst P (sym same) h

-- A node that was found.
pub presence_node : (found : Found) (called : Bool) (look : Look) (n : Metadata) → look.presence ≡ presences.Node n → IsLook found called (Ok look) → (found ≡ present n) × (look.lstat_called ≡ called)
presence_node found called look n same h = (h.0 ∙ ap found_presence same, h.1)

-- A result that isn't out of memory is the specified one.
pub live_answer : (specified : Result Metadata Fault) (n : Metadata) → IsAnswer specified (Ok n) → specified ≡ Ok n
live_answer specified n (inl h) = sym h
live_answer specified n (inr h) = absurd (cc)

-- A node that listings know, and one that `lstat` finds.
pub site_known : (check : LinkCheck) (known : Option Metadata) (answered : Result Metadata Fault) (n : Metadata) (look : Look) → check ≡ accepted → known ≡ Some n
    → IsLook (found_node (Ok n)) false (Ok look) → IsLook (found_by check (cached_or known answered)) (is_accepted check && not (is_some known)) (Ok look)
site_known check known answered n look verified is h =
    let P : LinkCheck → Type 0 = λ k. IsLook (found_by k (cached_or known answered)) (is_accepted k && not (is_some known)) (Ok look) in
    let Q : Option Metadata → Type 0 = λ o. IsLook (found_by accepted (cached_or o answered)) (is_accepted accepted && not (is_some o)) (Ok look) in
    subst P (sym verified) (subst Q (sym is) h)

pub site_live : (check : LinkCheck) (known : Option Metadata) (answered : Result Metadata Fault) (n : Metadata) (look : Look) → check ≡ accepted → known ≡ None → answered ≡ Ok n
    → IsLook (found_node (Ok n)) true (Ok look) → IsLook (found_by check (cached_or known answered)) (is_accepted check && not (is_some known)) (Ok look)
site_live check known answered n look verified is live h =
    let P : LinkCheck → Type 0 = λ k. IsLook (found_by k (cached_or known answered)) (is_accepted k && not (is_some known)) (Ok look) in
    let Q : Option Metadata → Type 0 = λ o. IsLook (found_by accepted (cached_or o answered)) (is_accepted accepted && not (is_some o)) (Ok look) in
    let R : Result Metadata Fault → Type 0 = λ r. IsLook (found_node r) true (Ok look) in
    subst P (sym verified) (subst Q (sym is) (subst R (sym live) h))

-- A path that isn't normal.
pub site_odd : (error : StackError) (check : LinkCheck) (node : Result Metadata Fault) (unknown : Bool)
    → (error ≡ stacks.EmptyPath) ⊎ ((component : BStr) × (error ≡ stacks.NotNormal component)) → IsCheckError check error
    → IsLook (found_by check node) (is_accepted check && unknown) (Err (errors.Io faults.NotNormal))
site_odd stacks.EmptyPath check node unknown odd same =
    let found : IsLook (refused faults.NotNormal) false (Err (errors.Io faults.NotNormal)) = inl (faults.NotNormal, refl, refl) in
    site_at empty_path check node unknown (Err (errors.Io faults.NotNormal)) same found
site_odd (stacks.NotNormal component) check node unknown odd same =
    let found : IsLook (refused faults.NotNormal) false (Err (errors.Io faults.NotNormal)) = inl (faults.NotNormal, refl, refl) in
    site_at (not_normal (bstr_bytes component)) check node unknown (Err (errors.Io faults.NotNormal)) same found
site_odd (stacks.ThroughLink prefix) check node unknown (inl e) same = absurd (cc)
site_odd (stacks.ThroughLink prefix) check node unknown (inr e) same = let f = e.1 in absurd (cc)
site_odd (stacks.Fault fault) check node unknown (inl e) same = absurd (cc)
site_odd (stacks.Fault fault) check node unknown (inr e) same = let f = e.1 in absurd (cc)
site_odd stacks.Memory check node unknown (inl e) same = absurd (cc)
site_odd stacks.Memory check node unknown (inr e) same = let f = e.1 in absurd (cc)

-- A decision of a case, with the look-up of its path counted.
pub counted_look : {T U : Type 0} (path : List ℕ) (case : Case T U) (called : Bool) (counted : Option Reads) (d : Decided T U)
    → IsOfCase path case false counted d → IsOfCase path case called counted (record d { lstat_called = called })
counted_look path case called counted d h = record { status = h.status; lstat_called = refl; racy = h.racy; reads = h.reads }

-- The reads that the comparer specifies, if it does.
pub reported_counts : (counted : Option Reads) → IsTrue (is_some counted) → counted ≡ Some (unwrap_or counted no_reads)
reported_counts (Some k) reported = refl
reported_counts None reported = absurd (cc)

module _ {T U : Type 0} (q : Query T U) (e : IndexEntry) where
  -- The comparer is called, except for entries that are trusted and not racy.
  pub calls_comparer : (n : Metadata) (s : Stat) (x trusted racy : Bool) → (x || not trusted || racy) ≡ true
      → case_of_content q e n s x trusted racy ≡ compared x trusted racy s (q.compared e n.len (readings q e n))
  calls_comparer n s true trusted racy h = refl
  calls_comparer n s false false racy h = refl
  calls_comparer n s false true true h = refl
  calls_comparer n s false true false h = absurd (cc)

  -- The comparer's change decides.
  pub compared_of_case : (n : Metadata) (s : Stat) (x trusted racy compares : Bool) (change : Option T) (counted : Option Reads) (d : Decided T U)
      → trusted ≡ is_trusted q e s → racy ≡ is_racy q.stat_options q.timestamp s → compares ≡ (x || not trusted || racy) → compares ≡ true
      → q.compared e n.len (readings q e n) ≡ Ok change → IsOfCase e.path (compared x trusted racy s (Ok change)) false counted d
      → IsOfCase e.path (case_of_content q e n s x (is_trusted q e s) (is_racy q.stat_options q.timestamp s)) false counted d
  compared_of_case n s x trusted racy compares change counted d same_trusted same_racy by_test needed answers h =
      let P : Case T U → Type 0 = λ k. IsOfCase e.path k false counted d in
      let lstat_called : case_of_content q e n s x trusted racy ≡ compared x trusted racy s (Ok change) = calls_comparer n s x trusted racy (sym by_test ∙ needed) ∙ ap (λ (r : Result (Option T) Error). compared x trusted racy s r) answers in
      let Q : Bool → Type 0 = λ t. P (case_of_content q e n s x t (is_racy q.stat_options q.timestamp s)) in
      let R : Bool → Type 0 = λ r. P (case_of_content q e n s x trusted r) in
      subst Q same_trusted (subst R same_racy (subst P (sym lstat_called) h))

  abbrev reads_at : Found → Reads
  reads_at f = if is_compared_case (case_of_found q e f) then reads_of_found q e f else no_reads

  -- The decision for the node that is found is the entry's.
  pub is_decided : (f : Found) (reported : Bool) (counted : Option Reads) (r : Result (Decided T U) Error)
      → found q e ≡ f → calls_lstat q e ≡ reported → (ModelsReads q → counted ≡ Some (reads_of_found q e f))
      → IsCaseDecided e.path (case_of_found q e f) reported counted r → IsDecided q e r
  is_decided f reported counted (Ok d) same lstat modelled h = record {
    status = ap (λ (x : Found). answer e.path (case_of_found q e x)) same ∙ h.status;
    lstat_called = h.lstat_called ∙ sym lstat;
    racy = h.racy ∙ sym (ap (λ (x : Found). is_racy_case (case_of_found q e x)) same);
    reads = λ reported_all.
        let P : Option Reads → Type 0 = λ c. IfSome c (λ k. d.reads ≡ (if is_compared_case (case_of_found q e f) then k else no_reads)) in
        let here : d.reads ≡ reads_at f = subst P (modelled reported_all) h.reads in
        here ∙ sym (ap reads_at same);
  }
  is_decided f reported counted (Err x) same lstat modelled (inl h) = inl (ap (λ (y : Found). answer e.path (case_of_found q e y)) same ∙ h)
  is_decided f reported counted (Err x) same lstat modelled (inr h) = inr h
