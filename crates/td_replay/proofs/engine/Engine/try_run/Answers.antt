use Rattle.std.proofs.Common.{subst}
use Rattle.td_replay.proofs.engine.Engine.try_run.Goals as goal
