use Rattle.td_integrity.proofs.Gaining.{references_stay}
use Rattle.td_integrity.proofs.ways.way_of_reference.Goals as goal

pub returns-then-branch : goal.returns-then-branch
returns-then-branch c =
    let x = c.args.change.now in
    references_stay c.args.catalogue.now c.args.expr.now x.0 x.1 c.requires c.was_defined.ensures (c.in_ok-keeps_references.ensures c.if-branch.true)
