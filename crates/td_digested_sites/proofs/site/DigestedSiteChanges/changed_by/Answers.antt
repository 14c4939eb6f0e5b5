use Rattle.std.proofs.Common.{Ok, Err, MatchResult, subst}
use Rattle.td_changes.specs.Changes.{TellsChanges}
use Rattle.td_digested_sites.proofs.site.DigestedSiteChanges.changed_by.Goals as goal

pub returns : goal.returns
returns g c =
    subst
    (λ r. MatchResult c.changed_by.result (λ changes. TellsChanges (g.R.Replica.seen r) c.args.at (Ok changes.now)) (λ e. TellsChanges (g.R.Replica.seen r) c.args.at (Err e)))
    c.self.view_is c.changed_by.ensures
