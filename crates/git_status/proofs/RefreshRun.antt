-- A refresh of an index file hides nothing from a later query.
use Rattle.std.proofs.Common.{◌≡◌, ◌∙◌, refl, sym, subst, ℕ, ◌==◌, Bool, true, false, not, ◌&&◌, List, [], map, Option, IsTrue}
use Rattle.std.specs.List.{list_any}
use Rattle.std.proofs.Math.Logic.{∥∥₁_map}
use Rattle.git_attributes.specs.Files.{attributes_of}
use Rattle.status_index.specs.States.{index_of}
use Rattle.status_call.specs.Inputs.{settings}
use Rattle.status_call.specs.Counts.{skipped_of}
use Rattle.status_call.specs.Query.{Query}
use Rattle.status_call.specs.Views.{as_seen}
use Rattle.status_call.specs.StatusTheorem.{IsBeginning, IsStatusReport, considered_entries, start_of}
use Rattle.status_call.specs.Records.{records_of}
use Rattle.status_call.specs.Visits.{Visit, finding_of}
use Rattle.git_status.specs.Kept.{Asks, is_left_out}
use Rattle.git_status.specs.Runs.{Asking}
use Rattle.git_status.specs.RefreshLaw.{ComparesBySizes, IsBySizes, RefreshesLaw, RunHidesNothing, RunLaw}
use Rattle.git_status.specs.Refreshes.{IsFileRefreshed}
use Rattle.git_status.specs.declared.answer.Report.{Report}
use Rattle.git_status.proofs.RefreshedEntries.{refresh_law}

-- If a record was left out, the refresh isn't whole.
not_whole : (left skipped interrupted : Bool) → left ≡ true → (not left && (skipped && not interrupted)) ≡ false
not_whole true skipped interrupted is = refl
not_whole false skipped interrupted is = absurd (cc)

module _ {U : Type 0} (a : Asking (Unit {0}) U) (bytes : List ℕ) where
  module _ (old new refreshed : Option (List ℕ)) (r : Report) (whole : Bool) (extensions : List ℕ) (made : IsFileRefreshed a bytes old r whole extensions refreshed new) where
    hides_nothing : (q : Query (Unit {0}) U) → IsTrue q.modelled → ComparesBySizes q → IsStatusReport q made.run.0.index [] made.run.1.answer made.run.1.visits
        → RunHidesNothing a bytes old new refreshed r whole extensions made q
    hides_nothing q modelled sizes met later later_sizes selects early =
        let index = made.run.0.index in
        let asks : Asks = (attributes_of made.run.0.converting.files, a.settings.conversions) in
        let visits = made.run.1.visits in
        let begins = subst (λ (vs : List (Visit (Unit {0}) U)). IsBeginning (map finding_of vs) (records_of q (start_of q index) (considered_entries q index))) (sym met.grew) (met.beginning modelled) in
        refresh_law asks q later visits (index_of index) sizes later_sizes selects (index.valid, begins)
        (λ left. early (made.whole ∙ not_whole (list_any (is_left_out asks) visits) (skipped_of r.outcome == 0) r.outcome.interrupted left))

    run_law : IsBySizes a bytes → RunLaw a bytes old new refreshed r whole extensions made
    run_law sizes =
        let filter = made.run.0.converting.filter in
        let asked = settings a.settings.options made.run.0.index in
        record {
          known = λ modelled. hides_nothing (a.query filter asked) (modelled filter asked) (sizes filter asked) made.run.1.computed.met;
          seen = ∥∥₁_map made.run.1.computed.seen (λ seen.
              (record { views = seen.views; allowed = seen.allowed }, hides_nothing (as_seen (a.query filter asked) seen.views) refl (sizes filter asked) seen.report));
        }

  pub refreshes_law : RefreshesLaw a bytes
  refreshes_law sizes old new refreshed r whole extensions made = run_law old new refreshed r whole extensions made sizes
