use Rattle.std.proofs.Common.{rules}
use Rattle.std.proofs.lemmas.Result.{IfOk-weaker}
use Rattle.git_staged.specs.TreeFiles.{nothing_known}
use Rattle.git_staged.proofs.FolderRuns.{more_known, never_known}
use Rattle.git_staged.proofs.files.read_folder.Goals as goal

pub returns : goal.returns
returns g c = IfOk-weaker c.read_beside.result _ _ (λ s files. (files.0, more_known _ nothing_known (never_known _ (search rules)) files.0 _ _ _ files.1)) c.read_beside.ensures
