use Rattle.git_attributes.proofs.Auto.{auto_law}
use Rattle.git_attributes.proofs.clean.ids_decide_as_git_does.Goals as goal

pub returns : goal.returns
returns c index path blob bytes = auto_law c.args.kind index path blob bytes
