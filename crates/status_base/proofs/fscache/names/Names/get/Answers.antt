use Rattle.std.proofs.Common.{Some, sym, ◌∙◌}
use Rattle.status_base.proofs.ListingTables.{map-get, named_none, named_some}
use Rattle.status_base.proofs.fscache.names.Names.get.Goals as goal

pub returns-then-is_empty : goal.returns-then-is_empty
returns-then-is_empty c = named_none (Some c.args.self.now) c.args.name.now (sym c.is_empty.ensures ∙ c.if-is_empty.true)

pub returns : goal.returns
returns c =
    c.copied.ensures ∙ c.get.ensures.value ∙ map-get c.self.inside.stats.entries _ _ c.self.view_is
    ∙ named_some c.args.self.now c.args.name.now (sym c.is_empty.ensures ∙ c.if-is_empty.false)
