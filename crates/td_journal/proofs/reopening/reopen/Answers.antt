use Rattle.td_journal.proofs.ComesBack.{reopened_as}
use Rattle.td_journal.proofs.reopening.reopen.Goals as goal

pub returns-in-Ok-clause-reopened : goal.returns-in-Ok-clause-reopened
returns-in-Ok-clause-reopened g c =
    reopened_as (λ r. g.R.Replica.seen r.replica) (λ r. r.whole) (λ r. r.version) c.args.script.now c.args.site c.args.limit _ _ (g.R.Replica.seen c.in-Ok.replica) c.take_journal.result c.in-Ok.ensures c.take_journal.ensures.taken
