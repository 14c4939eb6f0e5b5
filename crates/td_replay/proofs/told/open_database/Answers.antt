use Rattle.td_semantics.proofs.OneOpening.{opens_or_wants}
use Rattle.td_replay.proofs.told.open_database.Goals as goal

pub unreachable-requires : goal.unreachable-requires
unreachable-requires c = c.in_default.not-OutOfMemory (opens_or_wants c.args.script.now c.requires.0 c.in-Err.error c.requires.1 c.in-Err.ensures.opens)
