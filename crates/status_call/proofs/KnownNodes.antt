-- The node that listings know at a path, by the look-ups in them.
use Rattle.std.proofs.Common.{◌≡◌, sym, ap, ◌∙◌, ℕ, Bool, true, false, List, Option, Some, None, IfSome, option_map, IsTrue, subst}
use Rattle.status_index.specs.declared.stat.Metadata.{Metadata}
use Rattle.status_base.specs.ListedNodes.{Listing, MayList, known_node, listed, listed_node}
use Rattle.status_base.specs.ListingTable.{IsStatListed}
use Rattle.status_base.specs.declared.fscache.Stat.{Stat}
use Rattle.status_call.specs.EntrySights.{IsNodeListed}
use Rattle.status_call.specs.Modelled.{are_modelled}

module _ (fscache modelled : Bool) (listing : List ℕ → Listing) (path : List ℕ) (found : Option Stat) (asked : fscache ≡ true)
    (is_listed : IsTrue modelled → found ≡ listed listing path) where
  pub known_some : (stat : Stat) (node : Metadata) → found ≡ Some stat → node ≡ listed_node stat → IsTrue (are_modelled fscache modelled)
      → Some node ≡ known_node fscache listing path
  known_some stat node is shown all = go fscache asked all
    where
      go : (b : Bool) → b ≡ true → IsTrue (are_modelled b modelled) → Some node ≡ known_node b listing path
      go true h all = ap (λ n. Some n) shown ∙ ap (option_map listed_node) (sym is ∙ is_listed all)
      go false h all = absurd (cc)

  pub known_none : found ≡ None → IsTrue (are_modelled fscache modelled) → None ≡ known_node fscache listing path
  known_none is all = go fscache asked all
    where
      go : (b : Bool) → b ≡ true → IsTrue (are_modelled b modelled) → None ≡ known_node b listing path
      go true h all = ap (option_map listed_node) (sym is ∙ is_listed all)
      go false h all = absurd (cc)

-- A stat of a listing that may be returned, as a node.
pub node_listed : (may : MayList) (path : List ℕ) (found : Option Stat) (stat : Stat) (node : Metadata) → found ≡ Some stat → node ≡ listed_node stat → IfSome found (IsStatListed may path) → IsNodeListed may path node
node_listed may path found stat node is shown seen =
    let h : IsStatListed may path stat = subst (λ (o : Option Stat). IfSome o (IsStatListed may path)) is seen in
    record { listing = h.listing; allowed = h.allowed; node = ap (option_map listed_node) h.has ∙ sym (ap (λ (n : Metadata). Some n) shown) }
