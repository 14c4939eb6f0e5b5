use Rattle.std.proofs.Common.{◌∙◌}
use Rattle.td_listings.proofs.Cells.{all_cells}
use Rattle.td_listings.proofs.records.cells.Goals as goal

pub returns : goal.returns
returns c = c.loop-attribute.invariant ∙ all_cells c.args.attributes.now c.loop-attribute.attribute-index c.loop-attribute-test.false
