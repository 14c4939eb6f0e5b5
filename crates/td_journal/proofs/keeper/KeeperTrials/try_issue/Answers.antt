use Rattle.std.proofs.Common.{rules, ◌≡◌, true, Bool, sym, subst}
use Rattle.td_journal.specs.Views.{KeeperData, kept}
use Rattle.td_trials.specs.Trials.{Tries}
use Rattle.td_journal.proofs.keeper.KeeperTrials.try_issue.Goals as goal

pub returns-then-self : goal.returns-then-self
returns-then-self g c =
    let inside = c.self.inside in
    let open' : inside.is_open ≡ true = search rules in
    let tried =
    subst
    (λ (b : Bool). Tries (kept b (g.R.Replica.seen inside.replica)) c.args.text.now c.try_issue.result)
    (sym open') c.try_issue.ensures in
    subst
    (λ (k : KeeperData _ _). Tries (kept k.is_open (g.R.Replica.seen k.replica)) c.args.text.now c.try_issue.result)
    c.self.view_is tried
