use Rattle.std.proofs.Common.{rules, ◌≡◌, ◌≤◌, [], ◌∷◌, ◌++◌, sym, subst}
use Rattle.serde_json.specs.Data.{depth}
use Rattle.serde_json.specs.Read.{max_depth}
use Rattle.serde_json.specs.View.{view}
use Rattle.status_index.specs.States.{index_of, timestamp_of}
use Rattle.status_profile.specs.Refreshed.{IsTextOf, refreshed}
use Rattle.status_profile.proofs.WrittenIndexes.{refreshed_depth, unwritten}
use Rattle.status_profile.proofs.refreshed.refreshed_text.Goals as goal

pub returns-in-Err-clause-err : goal.returns-in-Err-clause-err
returns-in-Err-clause-err c = rw c.of_store.ensures (unwritten (index_of c.args.index) c.in-Err.error c.in-Err.ensures.err)

pub returns-clause-text : goal.returns-clause-text
returns-clause-text c = λ shallow.
    let es = index_of c.args.index in
    let t = timestamp_of c.args.index in
    let value : view c.in-Ok.refreshed ≡ refreshed (view c.args.profile) es t = c.in-Ok.ensures.value in
    let depths : depth (view c.in-Ok.refreshed) ≤ max_depth = subst (λ v. depth v ≤ max_depth) (sym value) (refreshed_depth (view c.args.profile) es t shallow) in
    let text = c.in_ok-text.text.items in
    let written = c.in_ok-text.ensures in
    let is : IsTextOf (view c.in-Ok.refreshed) text = record {
      exact = written.text;
      compact = written.compact;
      order = written.order;
      reads_back = written.reads_back depths;
    } in
    let pushed : c.extend_from_slice.new.self.items ≡ text ++ 10 ∷ [] = search rules in
    (text, subst (λ v. IsTextOf v text) value is, pushed)
