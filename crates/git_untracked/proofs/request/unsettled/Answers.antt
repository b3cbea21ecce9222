use Rattle.std.proofs.Common.{rules, ◌≡◌, ◌∙◌, [], ◌∷◌, ◌++◌, List, ℕ, Vec, sym, ap, subst, map-id}
use Rattle.std.proofs.lemmas.Iterator.Adapters.{YieldsList-from_vec}
use Rattle.std.proofs.lemmas.Iterator.Consumers.{YieldsList-end}
use Rattle.std.proofs.lemmas.List.{map-append}
use Rattle.std.specs.Global.{Global}
use Rattle.status_index.specs.States.{index_of}
use Rattle.git_untracked.specs.Lines.{paths_of}
use Rattle.git_untracked.specs.Questions.{is_settled}
use Rattle.git_untracked.specs.Requests.{Thins}
use Rattle.git_untracked.proofs.Thinning.{thins_all, thins_dropped, thins_kept}
use Rattle.git_untracked.proofs.request.unsettled.Goals as goal

pub loop-name-init : goal.loop-name-init
loop-name-init g c =
    let settled = λ (path : List ℕ). is_settled (g.P.Selection.leads c.args.paths.now path) (index_of c.args.index.now) path in
    subst (λ (xs : List (Vec ℕ Global)). Thins settled c.args.folder.now [] (paths_of xs)) (sym c.new-thin.ensures.items) (thins_all settled c.args.folder.now [])

pub loop-name-preserved-in-Continue-1 : goal.loop-name-preserved-in-Continue-1
loop-name-preserved-in-Continue-1 g c =
    let settled = λ (path : List ℕ). is_settled (g.P.Selection.leads c.args.paths.now path) (index_of c.args.index.now) path in
    let folder = c.args.folder.now in
    let name = c.in-Some.name in
    let old = c.loop-name.yielded in
    let thin = c.loop-name.thin.items in
    let all : paths_of (old ++ name ∷ []) ≡ paths_of old ++ name.items ∷ [] = map-append (λ (p : Vec ℕ Global). p.items) old (name ∷ []) in
    let some : paths_of c.push.new.self.items ≡ paths_of thin ++ name.items ∷ [] =
    ap paths_of c.in_ok-push.ensures.items ∙ map-append (λ (p : Vec ℕ Global). p.items) thin (name ∷ []) in
    subst (λ (xs : List (List ℕ)). Thins settled folder xs (paths_of c.push.new.self.items)) (sym all)
    (subst (λ (xs : List (List ℕ)). Thins settled folder (paths_of old ++ name.items ∷ []) xs) (sym some)
    (thins_kept settled folder (paths_of old) (paths_of thin) name.items c.loop-name.invariant))

pub loop-name-preserved : goal.loop-name-preserved
loop-name-preserved g c =
    let settled = λ (path : List ℕ). is_settled (g.P.Selection.leads c.args.paths.now path) (index_of c.args.index.now) path in
    let folder = c.args.folder.now in
    let name = c.in-Some.name in
    let old = c.loop-name.yielded in
    let thin = paths_of c.loop-name.thin.items in
    let all : paths_of (old ++ name ∷ []) ≡ paths_of old ++ name.items ∷ [] = map-append (λ (p : Vec ℕ Global). p.items) old (name ∷ []) in
    let it = (rw c.deref.ensures.value at c.is_settled_in.ensures) (cc) in
    subst (λ (xs : List (List ℕ)). Thins settled folder xs thin) (sym all)
    (thins_dropped settled folder (paths_of old) thin name.items it c.loop-name.invariant)

pub returns : goal.returns
returns g c =
    let settled = λ (path : List ℕ). is_settled (g.P.Selection.leads c.args.paths.now path) (index_of c.args.index.now) path in
    let all = c.args.names.items in
    let gives = YieldsList-from_vec all (cc) (search rules) in
    let end = YieldsList-end gives c.loop-name.yielded c.loop-name.name-iterator c.loop-name.yielded_by c.next.result c.next.new.self c.in-None.is c.next.ensures.steps in
    subst (λ (xs : List (Vec ℕ Global)). Thins settled c.args.folder.now (paths_of xs) (paths_of c.loop-name.thin.items)) (sym (map-id c.loop-name.yielded) ∙ end.0) c.loop-name.invariant
