use Rattle.std.proofs.Common.{refl}
use Rattle.td_journal.proofs.Stored.{not_started}
use Rattle.td_journal.proofs.stores.keeper_behind.Goals as goal

pub returns : goal.returns
returns g c =
    (not_started g.W.Sink c.args.whole (g.R.Replica.seen c.args.replica) c.in-Err.field-0.error c.args.writer c.in-Err.field-0.writer c.if-whole-gt0.false (g.met.R.Opens.stays_open c.args.replica) c.in-Err.ensures.written, refl)
