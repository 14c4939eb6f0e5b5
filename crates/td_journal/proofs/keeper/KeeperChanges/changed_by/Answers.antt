use Rattle.std.proofs.Common.{rules, ◌≡◌, true, Bool, Ok, Err, MatchResult, sym, subst}
use Rattle.td_changes.specs.Changes.{TellsChanges}
use Rattle.td_journal.specs.Views.{KeeperData, kept}
use Rattle.td_journal.proofs.keeper.KeeperChanges.changed_by.Goals as goal

pub returns : goal.returns
returns g c =
    let inside = c.self.inside in
    let open' : inside.is_open ≡ true = search rules in
    let at = c.args.at in
    let told =
    subst
    (λ (b : Bool). MatchResult c.changed_by.result (λ changes. TellsChanges (kept b (g.R.Replica.seen inside.replica)) at (Ok changes.now)) (λ e. TellsChanges (kept b (g.R.Replica.seen inside.replica)) at (Err e)))
    (sym open') c.changed_by.ensures in
    subst
    (λ (k : KeeperData _ _). MatchResult c.changed_by.result (λ changes. TellsChanges (kept k.is_open (g.R.Replica.seen k.replica)) at (Ok changes.now)) (λ e. TellsChanges (kept k.is_open (g.R.Replica.seen k.replica)) at (Err e)))
    c.self.view_is told
