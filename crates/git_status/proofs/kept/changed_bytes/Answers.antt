use Rattle.std.proofs.Common.{◌≡◌, ◌∙◌, ◌<◌, ◌^◌, [], length, subst, sym, ap}
use Rattle.status_index.specs.States.{index_of}
use Rattle.status_call.proofs.IndexChanges.{length-applied}
use Rattle.git_status.proofs.Fitting.{fit_again}
use Rattle.git_status.proofs.kept.changed_bytes.Goals as goal

pub to_bytes-requires : goal.to_bytes-requires
to_bytes-requires c =
    let file = c.args.file.now in
    let new = c.apply_changes.new.index in
    let whole = c.requires.whole in
    let stored = c.apply_changes.ensures in
    let len : length (index_of new) ≡ length (index_of file.state) = ap length stored.index ∙ length-applied c.args.changes.now (index_of file.state) in
    record {
      known = whole.known;
      count = subst (λ n. n < 2 ^ 32) (sym len) whole.count;
      fit = fit_again file.kind file.version [] (index_of new) (index_of file.state) stored.stats c.all_fit.ensures.widths whole.fit;
      optional = whole.optional;
    }
