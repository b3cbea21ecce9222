use Rattle.std.proofs.Common.{◌≡◌, ℕ, List, [], ◌∷◌, ◌++◌, Some, rules, sym, subst, ◌∙◌}
use Rattle.std.specs.FinMap as paths
use Rattle.std.proofs.lemmas.List.{map-append}
use Rattle.std.proofs.lemmas.Iterator.Adapters.{YieldsList-from_vec}
use Rattle.std.proofs.lemmas.Iterator.Consumers.{YieldsList-end}
use Rattle.bstr.specs.declared.bstring.BString.{BString}
use Rattle.bstr.specs.Owned.{bstring_bytes}
use Rattle.status_base.specs.Listing.{entries_of}
use Rattle.status_base.specs.ListingTable.{AreNamesOf}
use Rattle.status_base.specs.declared.fscache.Stat.{Stat}
use Rattle.status_base.proofs.ListingTables.{each_same, no_names, one_more}
use Rattle.status_base.proofs.fscache.names.Names.of_entries.Goals as goal

pub loop-name-init : goal.loop-name-init
loop-name-init c = subst (AreNamesOf (Some [])) (sym c.new-names.ensures) no_names

pub loop-name-preserved : goal.loop-name-preserved
loop-name-preserved c =
    let old = c.loop-name.yielded in
    let name : List ℕ = bstring_bytes c.in-Some.name in
    let stat : Stat = c.in-Some.stat in
    let more : entries_of (old ++ (c.in-Some.name, stat) ∷ []) ≡ entries_of old ++ (name, stat) ∷ [] = map-append (λ (p : BString × Stat). (bstring_bytes p.0, p.1)) old ((c.in-Some.name, stat) ∷ []) in
    let are = one_more (entries_of old) c.loop-name.names name stat c.loop-name.invariant in
    subst (AreNamesOf (Some (entries_of (old ++ (c.in-Some.name, stat) ∷ [])))) (sym c.in_ok-put.ensures) (subst (λ (es : List (List ℕ × Stat)). AreNamesOf (Some es) (paths.insert c.loop-name.names name stat)) (sym more) are)

pub returns : goal.returns
returns c =
    let all = c.args.entries.items in
    let gives = YieldsList-from_vec all (cc) (search rules) in
    let end = YieldsList-end gives c.loop-name.yielded c.loop-name.name-iterator c.loop-name.yielded_by c.next.result c.next.new.self c.in-None.is c.next.ensures.steps in
    subst (λ (es : List (BString × Stat)). AreNamesOf (Some (entries_of es)) c.loop-name.names) (sym (each_same c.loop-name.yielded) ∙ end.0) c.loop-name.invariant
