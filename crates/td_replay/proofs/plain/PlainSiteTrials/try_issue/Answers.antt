use Rattle.std.proofs.Common.{subst}
use Rattle.td_replica.specs.Seen.{Contents, always_open}
use Rattle.td_trials.specs.Trials.{Tries}
use Rattle.td_replay.proofs.plain.PlainSiteTrials.try_issue.Goals as goal

pub returns : goal.returns
returns c = subst (λ (z : Contents). Tries (always_open z) c.args.text.now c.try_issue.result) c.self.view_is c.try_issue.ensures
