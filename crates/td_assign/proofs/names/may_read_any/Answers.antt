use Rattle.std.proofs.Common.{refl, slice_index_or}
use Rattle.td_assign.proofs.Naming.{no_target_more}
use Rattle.td_assign.proofs.names.may_read_any.Goals as goal

pub loop-target-preserved : goal.loop-target-preserved
loop-target-preserved c =
    let ts = c.args.targets.now in
    let i = c.loop-target.target-index in
    no_target_more c.args.catalogue.now c.args.place ts i (slice_index_or ts i 0) c.loop-target-test.true refl c.loop-target.invariant (c.may_read.ensures c.if-may_read.false)
