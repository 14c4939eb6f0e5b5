use Rattle.std.proofs.Common.{rules, ◌≡◌, true, Bool, sym, subst}
use Rattle.td_replica.specs.Calls.{Asks}
use Rattle.td_journal.specs.Views.{KeeperData, kept}
use Rattle.td_journal.proofs.keeper.KeeperReplica.ask.Goals as goal

pub returns : goal.returns
returns g c =
    let inside = c.self.inside in
    let open' : inside.is_open ≡ true = search rules in
    let told = subst (λ (b : Bool). Asks (kept b (g.R.Replica.seen inside.replica)) c.args.text.now c.ask.result) (sym open') c.ask.ensures in
    subst (λ (k : KeeperData _ _). Asks (kept k.is_open (g.R.Replica.seen k.replica)) c.args.text.now c.ask.result) c.self.view_is told
