use Rattle.std.proofs.Common.{◌≡◌, refl, sym, ap, subst, ◌∙◌, List, map}
use Rattle.status_index.specs.Entries.{IndexEntry, index_entries}
use Rattle.status_index.specs.States.{index_of, timestamp_of}
use Rattle.status_call.specs.declared.index_as_worktree.apply.ApplyChange.{ApplyChange}
use Rattle.status_call.specs.IndexChanges.{AreInside, applied}
use Rattle.status_world.specs.Reports.{changes_in}
use Rattle.status_world.specs.StampedWorld.{StampedWorld, report_of, stored_verdict, verdict_in}
use Rattle.status_world.proofs.Stores.{report_inside, store_report}
use Rattle.status_world.proofs.world.state.World.store.Goals as goal

pub apply_changes-requires : goal.apply_changes-requires
apply_changes-requires c =
    let by = c.args.run.now.comparer in
    let same = ap (λ (w : StampedWorld). w.entries) (sym c.self.view_is) in
    record {
      inside = subst (λ (es : List IndexEntry). AreInside c.args.changes.now es) same
          (subst (λ (cs : List ApplyChange). AreInside cs c.args.self.now.entries) (sym c.requires) (report_inside c.args.self.now by));
    }

pub returns : goal.returns
returns c =
    let by = c.args.run.now.comparer in
    let w = c.args.self.now in
    let stamped : index_of c.set_timestamp.new.self ≡ index_of c.apply_changes.new.index = λ i. index_entries (c.set_timestamp.ensures.backing i) (c.set_timestamp.ensures.entries i) in
    let entries : index_of c.set_timestamp.new.self ≡ map (λ e. stored_verdict e (verdict_in w by e)) w.entries =
    stamped
    ∙ c.apply_changes.ensures.index
    ∙ ap (λ (cs : List ApplyChange). applied cs (index_of c.self.inside.parts.index)) c.requires
    ∙ ap (λ (v : StampedWorld). applied (changes_in (report_of w by).records) v.entries) c.self.view_is
    ∙ store_report w by in
    λ i. record {
      kind = (c.self.view_is i).kind;
      stat_options = (c.self.view_is i).stat_options;
      executable_bit = (c.self.view_is i).executable_bit;
      clock = (c.self.view_is i).clock;
      tree = (c.self.view_is i).tree;
      entries = entries i;
      timestamp = c.set_timestamp.ensures.timestamp i;
      staged = (c.self.view_is i).staged;
    }
