use Rattle.std.proofs.Common.{rules, ◌≡◌, true, Bool, sym, subst}
use Rattle.td_replica.specs.Past.{AsksAt}
use Rattle.td_journal.specs.Views.{KeeperData, kept}
use Rattle.td_journal.proofs.keeper.KeeperReplica.ask_at.Goals as goal

pub returns : goal.returns
returns g c =
    let inside = c.self.inside in
    let open' : inside.is_open ≡ true = search rules in
    let told = subst (λ (b : Bool). AsksAt (kept b (g.R.Replica.seen inside.replica)) c.args.text.now c.args.at c.ask_at.result) (sym open') c.ask_at.ensures.asks in
    record { asks = subst (λ (k : KeeperData _ _). AsksAt (kept k.is_open (g.R.Replica.seen k.replica)) c.args.text.now c.args.at c.ask_at.result) c.self.view_is told }
