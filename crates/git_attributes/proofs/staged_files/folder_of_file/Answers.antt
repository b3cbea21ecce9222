use Rattle.std.proofs.Common.{nat_eq, Some}
use Rattle.std.proofs.lemmas.Bool.Decides.{Decides-eqb}
use Rattle.std.proofs.lemmas.Slice.Eq.{strip_suffix_is}
use Rattle.git_attributes.proofs.staged_files.folder_of_file.Goals as goal

pub returns-in-Some-clause-path : goal.returns-in-Some-clause-path
returns-in-Some-clause-path c = strip_suffix_is {E = nat_eq} Decides-eqb c.args.path.now _ (Some c.in-Some.folder) c.in-Some.ensures.cases
