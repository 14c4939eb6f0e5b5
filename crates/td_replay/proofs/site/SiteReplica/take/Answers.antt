use Rattle.std.proofs.Common.{refl, sym, subst}
use Rattle.td_replica.specs.Seen.{Contents, always_open}
use Rattle.td_replay.specs.Counted.{RunsIn}
use Rattle.td_replay.proofs.site.SiteReplica.take.Goals as goal

pub returns-clause-counted : goal.returns-clause-counted
returns-clause-counted c = λ n runs.
    c.take.ensures.counted refl n (subst (λ (z : Contents). RunsIn (always_open z) c.args.batch.now n) (sym c.self.view_is) runs)
