use Rattle.std.proofs.Common.{rules, List, ◌++◌, map, subst}
use Rattle.std.specs.Global.{Vec}
use Rattle.status_index.specs.declared.entry.Entry.{Entry}
use Rattle.git_attributes.specs.Files.{File}
use Rattle.git_attributes.specs.Views.{file_view}
use Rattle.git_attributes.specs.declared.files.AttributeFile.{AttributeFile}
use Rattle.git_attributes.proofs.SharedSearch.{appended, value_of, whole}
use Rattle.git_attributes.proofs.shared_search.quarters.Goals as goal

pub returns : goal.returns
returns g c =
    let finder = c.args.search.now in
    let before = c.args.before.now in
    let last = c.last_path-last.result.now in
    let front : List Entry = c.split_at.result.0.now in
    let back : List Entry = c.split_at.result.1.now in
    let one : List File = map file_view c.in_ok-one.field-0.items in
    let other : List File = map file_view c.in_ok-other.field-0.items in
    let some : g.S.FindInPart.finds finder before front one = value_of (λ (files : Vec AttributeFile). g.S.FindInPart.finds finder before front (map file_view files.items)) _ c.in_ok-one.field-0 c.in_ok-one.was (search rules) in
    let others : g.S.FindInPart.finds finder last back other = value_of (λ (files : Vec AttributeFile). g.S.FindInPart.finds finder last back (map file_view files.items)) _ c.in_ok-other.field-0 c.in_ok-other.was (search rules) in
    let both = g.S.FindInPart.both finder before front back one other some (subst (λ v. g.S.FindInPart.finds finder v back other) c.last_path-last.ensures others) in
    let P : List Entry → Type 0 = λ v. g.S.FindInPart.finds finder before v (one ++ other) in
    appended (g.S.FindInPart.finds finder before c.args.part.now) c.in_ok-one.field-0 c.in_ok-other.field-0 c.append.result
    (subst P (whole c.args.part.now front back _ c.split_at.ensures.«front» c.split_at.ensures.«back») both) c.append.ensures
