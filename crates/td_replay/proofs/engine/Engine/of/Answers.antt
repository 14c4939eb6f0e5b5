use Rattle.std.proofs.Common.{sym}
use Rattle.td_replay.proofs.Depending.{over_same}
use Rattle.td_replay.proofs.engine.Engine.of.Goals as goal

pub invariant_of-result : goal.invariant_of-result
invariant_of-result c = over_same c.args.database.catalogue c.catalogue.result.now c.in_ok-dependencies.dependencies.relvars.items (sym c.catalogue.ensures.same) c.in_ok-dependencies.ensures
