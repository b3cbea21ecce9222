use Rattle.status_index.specs.Stretch.{meets}
use Rattle.status_index.proofs.Stretches.{stored_answer, stored_outside}
use Rattle.status_index.proofs.probe.PathProbeProbe.before.Goals as goal

pub returns-in-Some-clause-answer : goal.returns-in-Some-clause-answer
returns-in-Some-clause-answer c =
    let s = c.args.self.now in
    let item = c.in-Some.ensures.lookup in
    stored_answer (meets s.question s.prefix.now) s.backing.now s.entries.now s.front c.args.at c.in-Some.entry.now c.is_met.result item.3.0 (item.3.1 c.in-Some.entry.now) c.is_met.ensures

pub returns-in-None-clause-answer : goal.returns-in-None-clause-answer
returns-in-None-clause-answer c =
    let s = c.args.self.now in
    stored_outside (meets s.question s.prefix.now) s.backing.now s.entries.now s.front c.args.at c.in-None.ensures.lookup.3
