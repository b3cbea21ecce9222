use Rattle.std.proofs.Common.{ℕ, List, Option, Some, IfSome, sym, ap, subst, ◌∙◌}
use Rattle.bstr.specs.BStr.{bstr_bytes}
use Rattle.status_base.specs.ListedNodes.{Listing, directory_of, file_name_of}
use Rattle.status_base.specs.Listing.{listing_of}
use Rattle.status_base.specs.ListingTable.{AreNamesOf, HasListedNames, HasListedSeen, IsStatListed}
use Rattle.status_base.proofs.ListingTables.{grown_listed, known_put, named_seen, put-HasListedNames, put-HasListedSeen}
use Rattle.status_base.specs.declared.fscache.Stat.{Stat}
use Rattle.status_base.proofs.fscache.listings.Listings.get.Goals as goal

pub returns-clause-known : goal.returns-clause-known
returns-clause-known g c =
    let at = c.split_at_last_slash.ensures.directory ∙ ap directory_of c.as_bytes.ensures in
    let is = c.split_at_last_slash.ensures.name ∙ ap file_name_of c.as_bytes.ensures in
    c.get-stat.ensures ∙ known_put (bstr_bytes c.args.path) _ _ c.args.self.now c.put.new.self c.in_ok-names.names at is c.in_ok-put.ensures.ok

pub returns-clause-grown : goal.returns-clause-grown
returns-clause-grown g c =
    let at = c.split_at_last_slash.ensures.directory ∙ ap directory_of c.as_bytes.ensures in
    let is = c.split_at_last_slash.ensures.name ∙ ap file_name_of c.as_bytes.ensures in
    grown_listed (bstr_bytes c.args.path) _ _ c.args.self.now c.put.new.self c.in_ok-names.names at is (sym c.is_empty.ensures ∙ c.if-is_empty.false) (sym c.in_default.ensures) c.in_ok-put.ensures.ok

pub returns-clause-kept : goal.returns-clause-kept
returns-clause-kept g c =
    let listing = g.L.Lister.listing c.args.lister.now in
    λ modelled of.
    let are = subst (λ (l : Listing). AreNamesOf l c.in_ok-names.names) (c.in_ok-list.ensures.answer modelled ∙ ap listing c.new.ensures) c.in_ok-names.ensures in
    subst (HasListedNames listing) (sym c.in_ok-put.ensures.ok) (put-HasListedNames listing c.args.self.now _ c.in_ok-names.names of are)

pub returns-clause-seen : goal.returns-clause-seen
returns-clause-seen g c =
    let may = g.L.Lister.may_list c.args.lister.now in
    let path = bstr_bytes c.args.path in
    let at = c.split_at_last_slash.ensures.directory ∙ ap directory_of c.as_bytes.ensures in
    let is = c.split_at_last_slash.ensures.name ∙ ap file_name_of c.as_bytes.ensures in
    λ of.
    let allowed = subst (λ (d : List ℕ). may d (listing_of c.in_ok-list.field-0)) (c.new.ensures ∙ at) c.in_ok-list.ensures.seen in
    subst (λ (s : Option Stat). IfSome s (IsStatListed may path)) (sym c.get-stat.ensures)
    (named_seen may path _ (Some c.in_ok-names.names) is (record { listing = listing_of c.in_ok-list.field-0; allowed = allowed; names_of = c.in_ok-names.ensures }))

pub returns-clause-seen_kept : goal.returns-clause-seen_kept
returns-clause-seen_kept g c =
    let may = g.L.Lister.may_list c.args.lister.now in
    λ of.
    let are = rw c.new.ensures at c.in_ok-list.ensures.seen in
    subst (HasListedSeen may) (sym c.in_ok-put.ensures.ok)
    (put-HasListedSeen may c.args.self.now _ c.in_ok-names.names of (record { listing = listing_of c.in_ok-list.field-0; allowed = are; names_of = c.in_ok-names.ensures }))
