use Rattle.std.proofs.Common.{rules, sym, subst, ◌∙◌}
use Rattle.status_world.specs.Sound.{IsFormed, IsSound}
use Rattle.status_world.specs.StampedWorld.{StampedWorld}
use Rattle.status_world.proofs.FormedWorlds.{formed_new}
use Rattle.status_world.proofs.SoundWorlds.{sound_new}
use Rattle.status_world.proofs.world.state.World.new.Goals as goal

pub returns-in-None-clause-ok : goal.returns-in-None-clause-ok
returns-in-None-clause-ok c = search rules

pub returns-in-None-clause-sound : goal.returns-in-None-clause-sound
returns-in-None-clause-sound c =
    let a = c.args in
    let due = sym c.start_refusal.ensures ∙ c.in-None.is in
    subst (λ (w : StampedWorld). IsFormed w × IsSound w) (sym (returns-in-None-clause-ok c).1)
    (formed_new a.kind a.stat a.executable_bit a.clock a.timestamp due, sound_new a.kind a.stat a.executable_bit a.clock a.timestamp)
