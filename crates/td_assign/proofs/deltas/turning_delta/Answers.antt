use Rattle.td_assign.proofs.Differing.{turned, unturned}
use Rattle.td_assign.proofs.deltas.turning_delta.Goals as goal

pub returns-then-is_empty : goal.returns-then-is_empty
returns-then-is_empty c = unturned c.args.old.now c.args.new.now c.in_ok-delta.delta c.is_empty.result c.requires c.in_ok-delta.ensures c.is_empty.ensures c.rows_fit.ensures c.rows_fit-2.ensures c.if-is_empty.true

pub returns-else-is_empty : goal.returns-else-is_empty
returns-else-is_empty c = turned c.args.old.now c.args.new.now c.in_ok-delta.delta c.is_empty.result c.requires c.in_ok-delta.ensures c.is_empty.ensures c.rows_fit.ensures c.rows_fit-2.ensures c.if-is_empty.false
