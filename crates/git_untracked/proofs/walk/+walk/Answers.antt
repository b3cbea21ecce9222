use Rattle.std.proofs.Common.{◌≡◌, ◌⊎◌, Some, ◌∙◌, ◌++◌, ◌∷◌, [], true, false, if◌then◌else◌, inl, inr, refl, sym, ap, subst}
use Rattle.status_index.specs.declared.stat.NodeKind.TheVariants as kinds
use Rattle.status_walk.specs.Untracked.{is_tracked}
use Rattle.std.proofs.lemmas.Result.{on_ok_weaker}
use Rattle.git_ignore.specs.Views.{rules_view}
use Rattle.git_untracked.specs.Lines.{collapsed, lines_view, no_lines, own_line, paths_of}
use Rattle.git_untracked.specs.Questions.{Within, is_passed_over}
use Rattle.git_untracked.specs.Requests.{Thins, within_view}
use Rattle.git_untracked.specs.Walks.{AreNodes, IsFolder, IsNamed, IsNode, IsSubfolder, file_lines, is_ignored, is_left_out}
use Rattle.git_untracked.proofs.Thinning.{thins_nodes}
use Rattle.git_untracked.proofs.Walking.{added_as, added_none, no_paths, not_true, so_far_end, so_far_enough, so_far_more, so_far_start, split_paths}
use Rattle.git_untracked.proofs.walk.+walk.Goals as goal

pub walk_folder-returns-in_default-2-clause-lines : goal.walk_folder-returns-in_default-2-clause-lines
walk_folder-returns-in_default-2-clause-lines g t c =
    let q = g.Q.Ask.question c.args.ask.now in
    let folder = c.args.path.now.items in
    let w = within_view c.args.within (rules_view c.args.rules.now) in
    added_none (IsFolder q folder w) _ _ refl (IsFolder.gone folder w (rw (c.in_default-2.is, c.deref.ensures.value) at c.in_ok-names.ensures))

pub walk_folder-returns-clause-lines : goal.walk_folder-returns-clause-lines
walk_folder-returns-clause-lines g t c =
    let q = g.Q.Ask.question c.args.ask.now in
    let folder = c.args.path.now.items in
    let w = within_view c.args.within (rules_view c.args.rules.now) in
    let rules = rules_view c.add_rules.new.rules in
    let names = paths_of c.in-Some-2.names.items in
    let listed = rw (c.in-Some-2.is, c.deref.ensures.value) at c.in_ok-names.ensures in
    let thin = paths_of c.in_ok-thin.thin.items in
    let thins : Thins (is_passed_over q) folder names thin = rw c.deref-4.ensures.value at c.in_ok-thin.ensures in
    let within = within_view c.args.within rules in
    added_as (AreNodes q folder within thin) (IsFolder q folder w) _ _
    (λ lines nodes. IsFolder.listed folder w rules names lines listed (rw c.deref-2.ensures.value at c.in_ok-add_rules.ensures.2) (thins_nodes q folder within names thin thins lines nodes))
    (rw c.deref-5.ensures.value at c.in_ok-walk_names.ensures.lines)

pub walk_name-returns-then-is_special-clause-lines : goal.walk_name-returns-then-is_special-clause-lines
walk_name-returns-then-is_special-clause-lines g t c =
    let q = g.Q.Ask.question c.args.ask.now in
    let w = within_view c.args.within (rules_view c.args.rules.now) in
    added_none (IsNamed q w c.args.path.now.items c.args.name.now) _ _ refl (IsNamed.special w c.args.path.now.items c.args.name.now (sym c.is_special.ensures ∙ c.if-is_special.true))

pub walk_name-returns-clause-lines : goal.walk_name-returns-clause-lines
walk_name-returns-clause-lines g t c =
    let q = g.Q.Ask.question c.args.ask.now in
    let folder = c.args.path.now.items in
    let w = within_view c.args.within (rules_view c.args.rules.now) in
    added_as (IsNode q w c.extend_from_slice.new.self.items) (IsNamed q w folder c.args.name.now) _ _
    (λ lines node. IsNamed.node w folder c.args.name.now lines (sym c.is_special.ensures ∙ c.if-is_special.false) (subst (λ path. IsNode q w path lines) c.in_ok-extend_from_slice.ensures.items node))
    c.in_ok-walk_node.ensures.lines

pub walk_names-names-init : goal.walk_names-names-init
walk_names-names-init g t c = record {
  path = refl;
  rules = refl;
  lines = so_far_start (g.Q.Ask.question c.args.ask.now) c.args.path.now.items (within_view c.args.within (rules_view c.args.rules.now)) (paths_of c.args.names.now) _ _ refl;
}

pub walk_names-returns-then-go_on-clause-lines : goal.walk_names-returns-then-go_on-clause-lines
walk_names-returns-then-go_on-clause-lines g t c =
    let q = g.Q.Ask.question c.args.ask.now in
    let folder = c.args.path.now.items in
    let w = within_view c.args.within (rules_view c.args.rules.now) in
    let node = rw (c.names.invariant.path, c.names.invariant.rules, c.deref.ensures.value) at c.in_ok-walk_name.ensures.lines in
    let split = split_paths c.names.rest.now c.name-item.result _ c.name-item.is c.in-len1-up.len_at_least in
    let some = c.go_on.ensures (lines_view c.names.lines) node.0 node.1 (record { untracked = c.end-before.ensures.untracked; ignored = c.end-before.ensures.ignored }) in
    so_far_enough q folder w (paths_of c.args.names.now) _ _ _ (paths_of c.names.rest.now) _ c.name-item.result.items split c.if-within.true c.names.invariant.lines node
    (not_true _ (sym some ∙ c.if-go_on.true))

pub walk_names-names-preserved : goal.walk_names-names-preserved
walk_names-names-preserved g t c =
    let q = g.Q.Ask.question c.args.ask.now in
    let folder = c.args.path.now.items in
    let w = within_view c.args.within (rules_view c.args.rules.now) in
    let node = rw (c.names.invariant.path, c.names.invariant.rules, c.deref.ensures.value) at c.in_ok-walk_name.ensures.lines in
    let split = split_paths c.names.rest.now c.name-item.result _ c.name-item.is c.in-len1-up.len_at_least in
    record {
      path = c.in_ok-walk_name.ensures.path ∙ c.names.invariant.path;
      rules = c.in_ok-walk_name.ensures.rules ∙ c.names.invariant.rules;
      lines = so_far_more q folder w (paths_of c.args.names.now) _ _ _ (paths_of c.names.rest.now) _ c.name-item.result.items split c.names.invariant.lines node;
    }

pub walk_names-returns-clause-lines : goal.walk_names-returns-clause-lines
walk_names-returns-clause-lines g t c =
    let q = g.Q.Ask.question c.args.ask.now in
    let folder = c.args.path.now.items in
    let w = within_view c.args.within (rules_view c.args.rules.now) in
    so_far_end q folder w (paths_of c.args.names.now) _ _ (rw (no_paths c.names.rest.now c.in_default.len_below) at c.names.invariant.lines)

pub walk_node-returns-then-passes_over-clause-lines : goal.walk_node-returns-then-passes_over-clause-lines
walk_node-returns-then-passes_over-clause-lines g t c =
    let q = g.Q.Ask.question c.args.ask.now in
    let w = within_view c.args.within (rules_view c.args.rules.now) in
    added_none (IsNode q w c.args.path.now.items) _ _ refl (IsNode.passed_over w c.args.path.now.items (rw c.deref.ensures.value at (sym c.passes_over.ensures ∙ c.if-passes_over.true)))

pub walk_node-returns-in-None-clause-lines : goal.walk_node-returns-in-None-clause-lines
walk_node-returns-in-None-clause-lines g t c =
    let q = g.Q.Ask.question c.args.ask.now in
    let w = within_view c.args.within (rules_view c.args.rules.now) in
    added_none (IsNode q w c.args.path.now.items) _ _ refl (IsNode.nothing w c.args.path.now.items (rw (c.in-None.is, c.deref-2.ensures.value) at c.in_ok-kind.ensures))

pub walk_node-returns-then-branch-clause-lines : goal.walk_node-returns-then-branch-clause-lines
walk_node-returns-then-branch-clause-lines g t c =
    let q = g.Q.Ask.question c.args.ask.now in
    let path = c.args.path.now.items in
    let w = within_view c.args.within (rules_view c.args.rules.now) in
    let kind = rw (c.in-Some.is, c.in-Directory.is, c.deref-2.ensures.value) at c.in_ok-kind.ensures in
    let excluded = rw c.deref-in-Directory.ensures.value at c.in_ok-is_excluded-in-Directory.ensures in
    let left : is_left_out q w path ≡ true = rw (excluded, c.leads-leads.ensures, c.deref-in-Directory-2.ensures.value, c.deref-in-Directory-3.ensures.value) at (sym c.in_ok-leaves_out-in-Directory.ensures ∙ c.if-branch.true) in
    added_none (IsNode q w path) _ _ refl (IsNode.left_out w path kind left)

pub walk_node-returns-in-Other-clause-lines : goal.walk_node-returns-in-Other-clause-lines
walk_node-returns-in-Other-clause-lines g t c =
    let q = g.Q.Ask.question c.args.ask.now in
    let w = within_view c.args.within (rules_view c.args.rules.now) in
    added_none (IsNode q w c.args.path.now.items) _ _ refl (IsNode.other w c.args.path.now.items (rw (c.in-Some.is, c.in-Other.is, c.deref-2.ensures.value) at c.in_ok-kind.ensures))

pub walk_node-returns-in_ok-is_excluded-in-File-clause-lines : goal.walk_node-returns-in_ok-is_excluded-in-File-clause-lines
walk_node-returns-in_ok-is_excluded-in-File-clause-lines g t c =
    let q = g.Q.Ask.question c.args.ask.now in
    let path = c.args.path.now.items in
    let w = within_view c.args.within (rules_view c.args.rules.now) in
    let excluded = rw c.deref-in-File.ensures.value at c.in_ok-is_excluded-in-File.ensures in
    let found = rw (c.in-Some.is, c.deref-2.ensures.value) at c.in_ok-kind.ensures in
    let kind : q.may_be path (Some kinds.File) ⊎ q.may_be path (Some kinds.Link) = elim c.in-File.is [
      | inl file ↦ inl (rw file at found)
      | inr link ↦ inr (rw link at found)
    ] in
    let passed = rw c.deref.ensures.value at (sym c.passes_over.ensures ∙ c.if-passes_over.false) in
    let node : IsNode q w path (file_lines q c.in_ok-is_excluded-in-File.is_excluded path) =
    subst (λ x. IsNode q w path (file_lines q x path)) (sym excluded) (IsNode.file w path passed kind) in
    on_ok_weaker c.add_file.result (λ added. (file_lines q c.in_ok-is_excluded-in-File.is_excluded path, rw c.deref-in-File-2.ensures.value at added, node)) c.add_file.ensures

pub walk_node-returns-in_ok-walk_subfolder-in-Directory-clause-lines : goal.walk_node-returns-in_ok-walk_subfolder-in-Directory-clause-lines
walk_node-returns-in_ok-walk_subfolder-in-Directory-clause-lines g t c =
    let q = g.Q.Ask.question c.args.ask.now in
    let path = c.args.path.now.items in
    let w = within_view c.args.within (rules_view c.args.rules.now) in
    let kind = rw (c.in-Some.is, c.in-Directory.is, c.deref-2.ensures.value) at c.in_ok-kind.ensures in
    let excluded = rw c.deref-in-Directory.ensures.value at c.in_ok-is_excluded-in-Directory.ensures in
    let kept : is_left_out q w path ≡ false = rw (excluded, c.leads-leads.ensures, c.deref-in-Directory-2.ensures.value, c.deref-in-Directory-3.ensures.value) at (sym c.in_ok-leaves_out-in-Directory.ensures ∙ c.if-branch.false) in
    let passed = rw c.deref.ensures.value at (sym c.passes_over.ensures ∙ c.if-passes_over.false) in
    let below = rw (excluded, c.leads-leads.ensures, c.has_entry-has_entry.ensures, c.deref-in-Directory-2.ensures.value, c.deref-in-Directory-4.ensures.value, c.in_ok-extend_from_slice-in-Directory.ensures.items) at c.in_ok-walk_subfolder-in-Directory.ensures.lines in
    added_as (IsSubfolder q w.rules (is_ignored w path true) (q.leads path) (is_tracked q.index path) (path ++ 47 ∷ [])) (IsNode q w path) _ _
    (λ lines subfolder. IsNode.folder w path lines passed kind kept subfolder) below

pub walk_subfolder-returns-in-Nothing-clause-lines : goal.walk_subfolder-returns-in-Nothing-clause-lines
walk_subfolder-returns-in-Nothing-clause-lines g t c =
    let q = g.Q.Ask.question c.args.ask.now in
    let folder = c.args.path.now.items in
    let rules = rules_view c.args.rules.now in
    let way = rw (c.in-Nothing.is, c.deref.ensures.value) at c.in_ok-way_into.ensures in
    let line = IsSubfolder.repository rules c.args.is_excluded c.args.leads c.args.has_entry folder way.0 way.1 in
    added_none (IsSubfolder q rules c.args.is_excluded c.args.leads c.args.has_entry folder) _ _ refl
    (subst (λ lines. IsSubfolder q rules c.args.is_excluded c.args.leads c.args.has_entry folder lines)
    (ap (λ b. if b then no_lines else own_line c.args.has_entry folder c.args.is_excluded) way.2) line)

pub walk_subfolder-returns-in_ok-add_folder-in-Line-clause-lines : goal.walk_subfolder-returns-in_ok-add_folder-in-Line-clause-lines
walk_subfolder-returns-in_ok-add_folder-in-Line-clause-lines g t c =
    let q = g.Q.Ask.question c.args.ask.now in
    let folder = c.args.path.now.items in
    let rules = rules_view c.args.rules.now in
    let way = rw (c.in-Line.is, c.deref.ensures.value) at c.in_ok-way_into.ensures in
    let line = IsSubfolder.repository rules c.args.is_excluded c.args.leads c.args.has_entry folder way.0 way.1 in (
      own_line c.args.has_entry folder c.args.is_excluded,
      rw c.deref-in-Line.ensures.value at c.in_ok-add_folder-in-Line.ensures,
      subst (λ lines. IsSubfolder q rules c.args.is_excluded c.args.leads c.args.has_entry folder lines)
          (ap (λ b. if b then no_lines else own_line c.args.has_entry folder c.args.is_excluded) way.2) line,
    )

pub walk_subfolder-returns-in-Each-clause-lines : goal.walk_subfolder-returns-in-Each-clause-lines
walk_subfolder-returns-in-Each-clause-lines g t c =
    let q = g.Q.Ask.question c.args.ask.now in
    let folder = c.args.path.now.items in
    let rules = rules_view c.args.rules.now in
    let way = rw (c.in-Each.is, c.deref.ensures.value) at c.in_ok-way_into.ensures in
    let within : Within = record { rules = rules; excluded = c.args.is_excluded; one = false } in
    on_ok_weaker c.walk_folder.result
    (added_as (IsFolder q folder within) (IsSubfolder q rules c.args.is_excluded c.args.leads c.args.has_entry folder) _ _
    (λ lines inner. elim way [
      | inl some ↦ IsSubfolder.with_entries rules c.args.is_excluded c.args.leads c.args.has_entry folder lines some inner
      | inr none ↦ IsSubfolder.each rules c.args.is_excluded c.args.leads c.args.has_entry folder lines none.0 none.1 none.2 inner
    ]))
    c.walk_folder.ensures.lines

pub walk_subfolder-returns-in_ok-collapse-in-Whole-clause-lines : goal.walk_subfolder-returns-in_ok-collapse-in-Whole-clause-lines
walk_subfolder-returns-in_ok-collapse-in-Whole-clause-lines g t c =
    let q = g.Q.Ask.question c.args.ask.now in
    let folder = c.args.path.now.items in
    let rules = rules_view c.args.rules.now in
    let way = rw (c.in-Whole.is, c.deref.ensures.value) at c.in_ok-way_into.ensures in
    let inner = rw c.is_one_enough.ensures at c.in_ok-walk_folder-in-Whole.ensures.lines in
    let stands = c.in_ok-collapse-in-Whole.ensures (lines_view c.args.lines.now) inner.0 inner.1 (record { untracked = c.end-end.ensures.untracked; ignored = c.end-end.ensures.ignored }) in (
      collapsed (own_line c.args.has_entry folder) inner.0,
      rw (c.deref-in-Whole.ensures.value, c.in_ok-walk_folder-in-Whole.ensures.path) at stands,
      IsSubfolder.whole rules c.args.is_excluded c.args.leads c.args.has_entry folder inner.0 way.0 way.1 way.2 inner.2,
    )
