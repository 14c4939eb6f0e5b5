use Rattle.td_incremental.proofs.Judging.{safe_any}
use Rattle.td_incremental.proofs.safety.unread_is_safe.Goals as goal

pub returns : goal.returns
returns c = safe_any c.args.catalogue.now c.args.relvar c.args.tree.now c.is_unread.result c.is_unread.ensures
