use Rattle.std.proofs.Common.{rules, ◌≡◌, zero, suc, map, inl, refl, sym, ap, ◌∙◌, subst}
use Rattle.status_index.specs.declared.entry.Flags.{Flags}
use Rattle.status_index.specs.States.{index_of}
use Rattle.git_staged.specs.Folders.{copies}
use Rattle.git_staged.specs.Staged.{AreHeadFiles, AreStaged, staged_view}
use Rattle.git_staged.proofs.FolderRuns.{index_written}
use Rattle.git_staged.proofs.Unstaged.{none_staged}
use Rattle.git_staged.proofs.staged.HeadFindStaged.find_staged.Goals as goal

pub returns-then-eq : goal.returns-then-eq
returns-then-eq g c =
    let es = index_of c.args.index.now in
    let plain : Flags = record { 0 = 0 } in
    let files = copies plain es in
    let included = g.P.Pathspec.included c.args.self.now.paths in
    let same : c.in_ok-made.made.id ≡ c.in-Some.tree = search rules in
    let written = index_written c.kind.result plain c.in-Some.tree es (sym c.kind.ensures) refl (sym c.in_ok-made.ensures.id ∙ same) in (
      files,
      subst (λ tree. AreHeadFiles es tree files) (sym c.in-Some.is) (suc zero, inl written),
      subst (AreStaged included files es) (ap (map staged_view) (sym c.new.ensures.items)) (none_staged plain included es c.args.index.now.valid),
    )
