use Rattle.std.proofs.Common.{None}
use Rattle.status_world.proofs.StagedMaps.{staged-updated}
use Rattle.status_world.proofs.world.staging.StagedFiles.remove.Goals as goal

pub returns : goal.returns
returns c =
    staged-updated c.self.inside.files.entries _ _ _ _ None c.self.view_is c.as_bytes.ensures c.remove.ensures.updates.1 c.remove.ensures.updates.3
