-- The look-up of a path and the comparison of a content, by a view.
use Rattle.std.proofs.Common.{◌≡◌, ◌⊎◌, refl, sym, ap, ◌∙◌, subst, ℕ, List, Bool, true, false, not, ◌&&◌, ◌||◌, inl, inr, Option, Some, None, IfSome, is_some, Result, Ok, Err, IsTrue, if◌then◌else◌}
use Rattle.status_index.specs.declared.fault.Fault.{Fault}
use Rattle.status_index.specs.declared.stat.Metadata.{Metadata}
use Rattle.status_index.specs.declared.stat.Stat.{Stat}
use Rattle.status_index.specs.Entries.{IndexEntry}
use Rattle.status_index.specs.Mode.{is_submodule}
use Rattle.status_index.specs.Stat.{is_racy}
use Rattle.status_base.specs.LinkCheck.{LinkCheck, accepted, link_check}
use Rattle.status_base.specs.ListedNodes.{MayList}
use Rattle.status_base.specs.Sights.{AreAllowed, MayStat, Stats}
use Rattle.status_base.proofs.SightLemmas.{answer_here, link_check_with_answer, with_answer, with_answer_allowed}
use Rattle.status_compare.specs.declared.error.Error.{Error}
use Rattle.status_compare.specs.declared.error.Error.TheVariants as errors
use Rattle.status_compare.specs.declared.read_data.Reads.{Reads}
use Rattle.status_compare.specs.Reading.{IsSpecified}
use Rattle.status_compare.specs.Reads.{no_reads}
use Rattle.status_call.specs.declared.index_as_worktree.lookup.Look.{Look}
use Rattle.status_call.specs.declared.index_as_worktree.step.Decided.{Decided}
use Rattle.status_call.specs.declared.index_as_worktree.lookup.AtPath.{AtPath}
use Rattle.status_call.specs.declared.index_as_worktree.lookup.AtPath.TheVariants as presences
use Rattle.status_call.specs.declared.index_as_worktree.types.EntryStatus.{EntryStatus}
use Rattle.status_call.specs.Counts.{calls_lstat, is_accepted, is_compared_case, is_racy_case, reads_of_found}
use Rattle.status_call.specs.EntryParts.{IsCaseDecided, IsLook, IsOfCase, found_presence}
use Rattle.status_call.specs.EntrySights.{IfPresent, IsContentAllowed, IsDirectorySeen, IsLookSeen, IsNodeListed, IsSubmoduleSeen, IsViewAllowed}
use Rattle.status_call.specs.MayReturn.{MayReturn}
use Rattle.status_call.specs.Query.{Query}
use Rattle.status_call.specs.Status.{Case, Found, answer, cached_or, case_of_content, case_of_found, compared, directory, directory_case, found, found_by, found_node, gone, in_submodule, is_trusted, readings, refused, unchanged}
use Rattle.status_call.specs.Views.{IsSeenDecided, View, as_seen, nothing_seen}
use Rattle.status_call.proofs.EntryCases.{calls_comparer, counted_look, is_decided}
use Rattle.status_call.proofs.ViewLemmas.{if_present}

module _ (may : MayStat) (may_list : MayList) (fscache : Bool) (path : List ℕ) where
  -- If no directory bars the way, the node decides: one that a listing knows, or the result of `lstat`.
  pub seen_accepted : (lstat : Stats) (listed : Option Metadata) (result : Result Look Error) → AreAllowed may lstat → (fscache ≡ false → listed ≡ None) → IfSome listed (IsNodeListed may_list path) → link_check lstat path ≡ accepted
      → IsLook (found_node (cached_or listed (lstat path))) (not (is_some listed)) result → IsLookSeen may may_list fscache path result
  seen_accepted lstat listed result allowed unlisted node verified look =
      let P : LinkCheck → Type 0 = λ k. IsLook (found_by k (cached_or listed (lstat path))) (is_accepted k && not (is_some listed)) result in
      record { lstat = lstat; listed = listed; allowed = allowed; unlisted = unlisted; node = node; look = subst P (sym verified) look }

  -- `lstat` was called at the path.
  pub seen_live : (answer : Result Metadata Fault) (lstat : Stats) (result : Result Look Error) → may path answer → AreAllowed may lstat → link_check lstat path ≡ accepted
      → IsLook (found_node answer) true result → IsLookSeen may may_list fscache path result
  seen_live answer lstat result here allowed verified look =
      let Q : Result Metadata Fault → Type 0 = λ r. IsLook (found_node r) true result in
      seen_accepted (with_answer path answer lstat) None result (with_answer_allowed may path answer lstat here allowed) (λ _. refl) tt
      (link_check_with_answer path answer lstat ∙ verified) (subst Q (sym (answer_here path answer lstat)) look)

-- The case of an entry for which nothing was read.
pub unread_case : {T U : Type 0} (path : List ℕ) (case : Case T U) (status : Option (EntryStatus T U)) (called : Bool) (k : Reads) (d : Decided T U)
    → d ≡ record { status = status; lstat_called = called; racy = false; reads = no_reads } → answer path case ≡ Ok status → is_racy_case case ≡ false → is_compared_case case ≡ false → IsOfCase path case called (Some k) d
unread_case {T} {U} path case status called k d is answered still uncompared = record {
  status = answered ∙ ap (λ (x : Decided T U). Ok x.status) (sym is);
  lstat_called = ap (λ (x : Decided T U). x.lstat_called) is;
  racy = ap (λ (x : Decided T U). x.racy) is ∙ sym still;
  reads = ap (λ (x : Decided T U). x.reads) is ∙ sym (ap (λ (b : Bool). if b then k else no_reads) uncompared);
}

module _ {T U : Type 0} (q : Query T U) (e : IndexEntry) where
  abbrev unchanged_here : Case T U
  unchanged_here = unchanged

  settled : (n : Metadata) (s : Stat) (x trusted racy : Bool) → (x || not trusted || racy) ≡ false → case_of_content q e n s x trusted racy ≡ unchanged
  settled n s true trusted racy h = absurd (cc)
  settled n s false false racy h = absurd (cc)
  settled n s false true true h = absurd (cc)
  settled n s false true false h = refl

  -- The stats settle that the content is unchanged.
  pub unread_of_case : (n : Metadata) (s : Stat) (x trusted racy compares : Bool) (counted : Option Reads) (d : Decided T U)
      → trusted ≡ is_trusted q e s → racy ≡ is_racy q.stat_options q.timestamp s → compares ≡ (x || not trusted || racy) → compares ≡ false
      → d ≡ record { status = None; lstat_called = false; racy = false; reads = no_reads }
      → IsOfCase e.path (case_of_content q e n s x (is_trusted q e s) (is_racy q.stat_options q.timestamp s)) false counted d
  unread_of_case n s x trusted racy compares counted d same_trusted same_racy by_test needless is =
      let P : Case T U → Type 0 = λ k. IsOfCase e.path k false counted d in
      let Q : Bool → Type 0 = λ t. P (case_of_content q e n s x t (is_racy q.stat_options q.timestamp s)) in
      let R : Bool → Type 0 = λ r. P (case_of_content q e n s x trusted r) in
      subst Q same_trusted (subst R same_racy (subst P (sym (settled n s x trusted racy (sym by_test ∙ needless))) (unchanged_case counted)))
    where
      unchanged_case : (counted : Option Reads) → IsOfCase e.path unchanged_here false counted d
      unchanged_case (Some k) = record {
        status = ap (λ (x : Decided T U). Ok x.status) (sym is);
        lstat_called = ap (λ (x : Decided T U). x.lstat_called) is;
        racy = ap (λ (x : Decided T U). x.racy) is;
        reads = ap (λ (x : Decided T U). x.reads) is;
      }
      unchanged_case None = record {
        status = ap (λ (x : Decided T U). Ok x.status) (sym is);
        lstat_called = ap (λ (x : Decided T U). x.lstat_called) is;
        racy = ap (λ (x : Decided T U). x.racy) is;
        reads = tt;
      }

  -- The comparer fails.
  pub failed_of_case : (n : Metadata) (s : Stat) (x trusted racy compares : Bool) (error : Error)
      → trusted ≡ is_trusted q e s → racy ≡ is_racy q.stat_options q.timestamp s → compares ≡ (x || not trusted || racy) → compares ≡ true
      → q.compared e n.len (readings q e n) ≡ Err error
      → answer e.path (case_of_content q e n s x (is_trusted q e s) (is_racy q.stat_options q.timestamp s)) ≡ Err error
  failed_of_case n s x trusted racy compares error same_trusted same_racy by_test needed fails =
      let P : Case T U → Type 0 = λ k. answer e.path k ≡ Err error in
      let Q : Bool → Type 0 = λ t. P (case_of_content q e n s x t (is_racy q.stat_options q.timestamp s)) in
      let R : Bool → Type 0 = λ r. P (case_of_content q e n s x trusted r) in
      let called : case_of_content q e n s x trusted racy ≡ compared x trusted racy s (Err error) = calls_comparer q e n s x trusted racy (sym by_test ∙ needed) ∙ ap (λ (r : Result (Option T) Error). compared x trusted racy s r) fails in
      subst Q same_trusted (subst R same_racy (subst P (sym called) refl))

  -- The same, or memory ran out.
  pub comparison_failed : (n : Metadata) (s : Stat) (x trusted racy compares : Bool) (error : Error)
      → trusted ≡ is_trusted q e s → racy ≡ is_racy q.stat_options q.timestamp s → compares ≡ (x || not trusted || racy) → compares ≡ true
      → (q.compared e n.len (readings q e n) ≡ Err error) ⊎ (error ≡ errors.Memory)
      → (answer e.path (case_of_content q e n s x (is_trusted q e s) (is_racy q.stat_options q.timestamp s)) ≡ Err error) ⊎ (error ≡ errors.Memory)
  comparison_failed n s x trusted racy compares error same_trusted same_racy by_test needed (inl fails) = inl (failed_of_case n s x trusted racy compares error same_trusted same_racy by_test needed fails)
  comparison_failed n s x trusted racy compares error same_trusted same_racy by_test needed (inr none) = inr none

  -- A view by which the look-up of the path fails has no directory there.
  refused_directory : (A : Type 0) (k : Found) (f : Fault) → k ≡ refused f → k ≡ directory → A
  refused_directory A k f one other = absurd (let h = sym one ∙ other in cc)

  module _ (may : MayReturn U) (fscache : Bool) (free : IsViewAllowed may fscache e nothing_seen) where
    -- The look-up of the path failed.
    module _ (error : Error) (s : IsLookSeen may.stat may.listed fscache e.path (Err error)) where
      abbrev refused_view : View U
      refused_view = record nothing_seen { lstat = s.lstat; listed = s.listed }

      refused_look : IsLook (found (as_seen q (λ _. refused_view)) e) (calls_lstat (as_seen q (λ _. refused_view)) e) (Err error) → IsSeenDecided (IsViewAllowed may fscache) q e (Err error)
      refused_look (inl h) = record {
        view = refused_view;
        allowed = record {
          stats = s.allowed;
          unlisted = s.unlisted;
          node = s.node;
          content = subst (λ (k : Found). IfPresent k (λ n. IsContentAllowed may e n refused_view)) (sym h.1) tt;
          submodule = λ there _. refused_directory _ (found (as_seen q (λ _. refused_view)) e) h.0 h.1 there;
        };
        decided = inl (ap (λ (x : Found). answer e.path (case_of_found (as_seen q (λ _. refused_view)) e x)) h.1 ∙ ap (λ (x : Error). Err x) (sym h.2));
      }
      refused_look (inr h) = record { view = nothing_seen; allowed = free; decided = inr h }

      pub seen_refused : IsSeenDecided (IsViewAllowed may fscache) q e (Err error)
      seen_refused = refused_look s.look

  -- The decision for what was found at the path, by a view's contents and by what its submodule said.
  module _ (may : MayReturn U) (fscache : Bool) (look : Look) (p : AtPath) (is : look.presence ≡ p) (s : IsLookSeen may.stat may.listed fscache e.path (Ok look)) where
    abbrev pub view_with : View U → View U
    view_with v = record v { lstat = s.lstat; listed = s.listed }

    pub seen_found : (v : View U) → IfPresent (found_presence p) (λ n. IsContentAllowed may e n v) → (found_presence p ≡ directory → IsTrue (is_submodule e.mode) → may.reported e v.submodule) → (r : Result (Decided T U) Error)
        → IsCaseDecided e.path (case_of_found (as_seen q (λ _. view_with v)) e (found_presence p)) look.lstat_called (Some (reads_of_found (as_seen q (λ _. view_with v)) e (found_presence p))) r
        → IsSeenDecided (IsViewAllowed may fscache) q e r
    seen_found v content said r h =
        let view : View U = view_with v in
        let same : found (as_seen q (λ _. view)) e ≡ found_presence p = s.look.0 ∙ ap found_presence is in
        record {
          view = view;
          allowed = record { stats = s.allowed; unlisted = s.unlisted; node = s.node; content = subst (λ (k : Found). IfPresent k (λ n. IsContentAllowed may e n view)) (sym same) (if_present (found_presence p) (λ n h. record { opened = h.opened; linked = h.linked; blob = h.blob }) content); submodule = λ there. said (sym same ∙ there) };
          decided = is_decided (as_seen q (λ _. view)) e (found_presence p) look.lstat_called (Some (reads_of_found (as_seen q (λ _. view)) e (found_presence p))) r
              same (sym s.look.1) (λ _. refl) h;
        }

    -- A directory is there: the decision by what the submodule may report.
    pub directory_seen : p ≡ presences.Directory → IsViewAllowed may fscache e nothing_seen → (d : Decided T U) → IsDirectorySeen (may.reported e) e (Ok d) → IsSeenDecided (IsViewAllowed may fscache) q e (Ok (record d { lstat_called = look.lstat_called }))
    directory_seen there free d (inl h) = absurd (let x = h in cc)
    directory_seen there free d (inr said) =
        let v : View U = record nothing_seen { submodule = said.said } in
        seen_found v (subst (λ (a : AtPath). IfPresent (found_presence a) (λ n. IsContentAllowed may e n v)) (sym there) tt) (λ _ yes. said.allowed yes) (Ok (record d { lstat_called = look.lstat_called }))
        (subst (λ (a : AtPath). IsCaseDecided e.path (case_of_found (as_seen q (λ _. view_with v)) e (found_presence a)) look.lstat_called (Some (reads_of_found (as_seen q (λ _. view_with v)) e (found_presence a))) (Ok (record d { lstat_called = look.lstat_called })))
        (sym there) (counted_look e.path (directory_case e said.said) look.lstat_called (Some no_reads) d said.decided))

    pub directory_refused : p ≡ presences.Directory → IsViewAllowed may fscache e nothing_seen → (x : Error) → IsDirectorySeen {T = T} (may.reported e) e (Err x) → IsSeenDecided (IsViewAllowed may fscache) q e (Err x)
    directory_refused there free x (inl h) =
        let same : x ≡ errors.Memory = cc in
        record { view = nothing_seen; allowed = free; decided = inr same }
    directory_refused there free x (inr said) =
        let v : View U = record nothing_seen { submodule = said.said } in
        seen_found v (subst (λ (a : AtPath). IfPresent (found_presence a) (λ n. IsContentAllowed may e n v)) (sym there) tt) (λ _ yes. said.allowed yes) (Err x)
        (subst (λ (a : AtPath). IsCaseDecided e.path (case_of_found (as_seen q (λ _. view_with v)) e (found_presence a)) look.lstat_called (Some (reads_of_found (as_seen q (λ _. view_with v)) e (found_presence a))) (Err x)) (sym there) said.decided)

-- The decision of a submodule's entry by what its submodule may report.
module _ {T U : Type 0} (e : IndexEntry) (may : Result (Option U) (List ℕ) → Type 0) (yes : is_submodule e.mode ≡ true) where
  case_said : (said : Result (Option U) (List ℕ)) → directory_case {T = T} e said ≡ in_submodule said
  case_said said = ap (λ (b : Bool). if b then in_submodule said else gone) yes

  pub directory_failed : (x : Error) (r : Result (Decided T U) Error) → r ≡ Err x → IsSubmoduleSeen {T = T} may e.path (Err x) → IsDirectorySeen may e r
  directory_failed x r is (inl h) = let same : x ≡ errors.Memory = cc in inl (is ∙ ap (λ (y : Error). Err y) same)
  directory_failed x r is (inr s) =
      inr (record { said = s.said; allowed = λ _. s.allowed; decided = subst (λ (z : Result (Decided T U) Error). IsCaseDecided e.path (directory_case e s.said) false (Some no_reads) z) (sym is) (by_status s.status) })
    where
      by_status : IsSpecified (answer {T = T} e.path (in_submodule s.said)) (Err x) → IsCaseDecided e.path (directory_case {T = T} e s.said) false (Some no_reads) (Err x)
      by_status (inl h) = inl (ap (answer e.path) (case_said s.said) ∙ sym h)
      by_status (inr h) = let same : x ≡ errors.Memory = cc in inr same

  pub directory_done : (status : Option (EntryStatus T U)) (d : Decided T U) → d ≡ record { status = status; lstat_called = false; racy = false; reads = no_reads }
      → IsSubmoduleSeen {T = T} may e.path (Ok status) → IsDirectorySeen may e (Ok d)
  directory_done status d is (inl h) = absurd (let x = h in cc)
  directory_done status d is (inr s) =
      inr (record { said = s.said; allowed = λ _. s.allowed; decided = subst (λ (k : Case T U). IsOfCase e.path k false (Some no_reads) d) (sym (case_said s.said)) (unread_case e.path (in_submodule s.said) status false no_reads d is (by_status s.status) refl refl) })
    where
      by_status : IsSpecified (answer {T = T} e.path (in_submodule s.said)) (Ok status) → answer {T = T} e.path (in_submodule s.said) ≡ Ok status
      by_status (inl h) = sym h
      by_status (inr h) = absurd (let x = h in cc)
