use Rattle.std.proofs.Common.{rules, tests, ◌∙◌}
use Rattle.std.specs.Str.{bytes_eq}
use Rattle.std.proofs.lemmas.Iterator.{YieldsList-from_slice}
use Rattle.std.proofs.lemmas.Iterator.Search.{any_from_yields_List}
use Rattle.git_attributes.specs.declared.files.AttributeFile.{AttributeFile}
use Rattle.git_attributes.proofs.StagedFiles.{any_view}
use Rattle.git_attributes.proofs.staged_files.has_file_of.Goals as goal

pub returns : goal.returns
returns c =
    any_from_yields_List (λ (f : AttributeFile). bytes_eq f.folder.items c.args.folder.now) _ _ _ c.any.ensures.ran
    (YieldsList-from_slice c.args.files.now c.iter.ensures.rest) (λ x b q k. search (rules, tests))
    ∙ any_view c.args.folder.now c.args.files.now
