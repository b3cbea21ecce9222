use Rattle.std.proofs.Common.{◌≡◌, ◌∙◌, ◌<◌, ◌≤◌, ℕ, true, false, List, length, take, sym, ap, arith}
use Rattle.std.proofs.lemmas.List.{length-map, take-map}
use Rattle.std.proofs.lemmas.Result.{on_ok_weaker}
use Rattle.git_untracked.specs.Lines.{and_lines, lines_view, own_line, paths_of}
use Rattle.git_untracked.proofs.Collapsing.{both, ignored_stands, untracked_stands}
use Rattle.git_untracked.proofs.lines.Lines.collapse.Goals as goal

pub returns-then-len-end : goal.returns-then-len-end
returns-then-len-end c before inner grown ends =
    let now = lines_view c.args.self.now in
    let end = c.args.end in
    let stored = c.args.self.now.untracked.items in
    let cut : paths_of c.truncate.new.self.items ≡ take end.untracked now.untracked = ap paths_of c.truncate.ensures.items ∙ sym (take-map (λ path. path.items) end.untracked stored) in
    let more : end.untracked < length now.untracked = omega (arith, length-map stored (λ path. path.items), c.len.ensures, c.if-len-end.true) in
    on_ok_weaker c.add_folder.result
    (λ e. untracked_stands c.args.has_entry c.args.folder.now before inner now grown end.untracked end.ignored ends.untracked ends.ignored (lines_view c.add_folder.new.self) more
    (e ∙ ap (λ (xs : List (List ℕ)). and_lines (both xs now.ignored) (own_line c.args.has_entry c.args.folder.now false)) cut))
    c.add_folder.ensures

pub returns-then-len-end-2 : goal.returns-then-len-end-2
returns-then-len-end-2 c before inner grown ends =
    let now = lines_view c.args.self.now in
    let end = c.args.end in
    let stored = c.args.self.now.ignored.items in
    let cut : paths_of c.truncate-then-len-end-2.new.self.items ≡ take end.ignored now.ignored = ap paths_of c.truncate-then-len-end-2.ensures.items ∙ sym (take-map (λ path. path.items) end.ignored stored) in
    let none : length now.untracked ≤ end.untracked = omega (arith, length-map c.args.self.now.untracked.items (λ path. path.items), c.len.ensures, c.if-len-end.false) in
    let more : end.ignored < length now.ignored = omega (arith, length-map stored (λ path. path.items), c.len-else-len-end.ensures, c.if-len-end-2.true) in
    on_ok_weaker c.add_folder-then-len-end-2.result
    (λ e. ignored_stands c.args.has_entry c.args.folder.now before inner now grown end.untracked end.ignored ends.untracked ends.ignored (lines_view c.add_folder-then-len-end-2.new.self) none more
    (e ∙ ap (λ (xs : List (List ℕ)). and_lines (both now.untracked xs) (own_line c.args.has_entry c.args.folder.now true)) cut))
    c.add_folder-then-len-end-2.ensures
