use Rattle.status_world.proofs.Replays.{replay_law}
use Rattle.status_world.proofs.world.laws.no_change_is_missed.Goals as goal

pub returns : goal.returns
returns c = replay_law
