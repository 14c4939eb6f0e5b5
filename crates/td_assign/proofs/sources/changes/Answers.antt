use Rattle.std.proofs.Common.{sym, subst, arith}
use Rattle.std.proofs.lemmas.List.Elements.{All-get_or}
use Rattle.td_semantics.specs.Databases.{stored_relvars}
use Rattle.td_assign.specs.ForProofs.Given.{IsAssigned}
use Rattle.td_assign.proofs.Assigning.{more, stopped}
use Rattle.td_assign.proofs.sources.changes.Goals as goal

pub add_source-requires-clause-assigned : goal.add_source-requires-clause-assigned
add_source-requires-clause-assigned c =
    let k = c.args.database.now.catalogue in
    let x = c.assignment-item.result in
    subst (IsAssigned k) (sym c.assignment-item.is) (All-get_or (IsAssigned k) c.args.assignments.now c.loop-assignment.assignment-index x (omega arith) c.requires)

pub returns-in-Err-clause-told : goal.returns-in-Err-clause-told
returns-in-Err-clause-told c =
    let d = c.args.database.now in
    stopped d.catalogue (stored_relvars d.stored) c.args.assignments.now c.loop-assignment.assignment-index c.assignment-item.result c.loop-assignment.changes.items (omega arith) c.assignment-item.is c.loop-assignment.invariant.left c.in-Err.failure c.in-Err.ensures.told

pub loop-assignment-preserved : goal.loop-assignment-preserved
loop-assignment-preserved c =
    let d = c.args.database.now in
    record {
      left = more d.catalogue (stored_relvars d.stored) c.args.assignments.now c.loop-assignment.assignment-index c.assignment-item.result c.loop-assignment.changes.items (omega arith) c.assignment-item.is c.loop-assignment.invariant.left c.add_source.new.changes.items c.in-Ok.ensures.told;
      given = c.in-Ok.ensures.given;
    }
