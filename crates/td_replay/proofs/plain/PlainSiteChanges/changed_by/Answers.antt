use Rattle.std.proofs.Common.{Ok, Err, MatchResult, subst}
use Rattle.td_changes.specs.Changes.{TellsChanges}
use Rattle.td_replica.specs.Seen.{Contents, always_open}
use Rattle.td_replay.proofs.plain.PlainSiteChanges.changed_by.Goals as goal

pub returns : goal.returns
returns c =
    subst
    (λ (z : Contents). MatchResult c.changed_by.result (λ changes. TellsChanges (always_open z) c.args.at (Ok changes.now)) (λ e. TellsChanges (always_open z) c.args.at (Err e)))
    c.self.view_is c.changed_by.ensures
