use Rattle.std.proofs.Common.{◌≡◌, ◌∙◌, ◌++◌, List, ℕ, Bool, true, [], sym, ap}
use Rattle.bstr.specs.BStr.{bstr_bytes}
use Rattle.status_index.specs.Entries.{entry_at, path_in}
use Rattle.status_index.specs.States.{backing_of, entries_of}
use Rattle.status_index.specs.declared.entry.PathStorage.{PathStorage}
use Rattle.git_untracked.specs.Questions.{settles}
use Rattle.git_untracked.proofs.Settled.{settled_at}
use Rattle.git_untracked.proofs.request.is_settled_in.Goals as goal

pub returns-then-is_joined : goal.returns-then-is_joined
returns-then-is_joined g c it =
    let leads = g.P.Selection.leads c.args.paths.now in
    let path = c.args.folder.now ++ c.args.name.now in
    let entry = c.in-Some.entry.now in
    let item = rw c.entries.ensures.value at c.in-Some.ensures.lookup.3 in
    let text : bstr_bytes c.path_in-path.result ≡ path = sym c.as_bytes.ensures ∙ c.is_joined.ensures c.if-is_joined.true in
    let stored : path_in (backing_of c.args.index.now) entry ≡ path = ap (λ (b : PathStorage). path_in b entry) (sym c.path_backing.ensures) ∙ (sym c.path_in-path.ensures ∙ text) in
    let settled : settles (leads path) (entry_at [] entry) ≡ true =
    ap (λ (x : List ℕ). settles (leads x) (entry_at [] entry)) (sym text) ∙ (ap (λ (x : Bool). settles x (entry_at [] entry)) (sym c.leads.ensures) ∙ (sym c.settles.ensures ∙ it)) in
    settled_at (backing_of c.args.index.now) (leads path) (entries_of c.args.index.now) c.search-at.result entry path item.0 (sym (item.1 entry)) stored settled
