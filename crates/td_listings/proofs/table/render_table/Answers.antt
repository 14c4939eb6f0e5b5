use Rattle.std.proofs.Common.{ap}
use Rattle.td_listings.specs.ForProofs.Asked.{meant}
use Rattle.td_listings.proofs.table.render_table.Goals as goal

pub returns-in-Ok : goal.returns-in-Ok
returns-in-Ok c = (c.in-Value.relation, ap meant c.in-Value.is, c.in-Ok.ensures)
