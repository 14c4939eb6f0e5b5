use Rattle.td_integrity.proofs.Gaining.{known_way, untouched_stays}
use Rattle.td_integrity.specs.declared.ways.Way.TheVariants.{Stays}
use Rattle.td_integrity.proofs.ways.way_of.Goals as goal

pub returns-then-not-is_touched : goal.returns-then-not-is_touched
returns-then-not-is_touched c =
    let changes = c.in-Some.changes in
    known_way c.args.catalogue.now c.args.expr.now c.args.changes changes Stays c.in-Some.is
    (untouched_stays c.args.catalogue.now c.args.expr.now changes.now c.is_touched.result c.was_defined.ensures c.requires c.is_touched.ensures c.if-not-is_touched.true)
