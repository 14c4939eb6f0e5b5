use Rattle.std.proofs.Common.{◌≡◌, true, ap}
use Rattle.td_io.specs.Views.{output_of}
use Rattle.td_journal.proofs.Stored.{went_on}
use Rattle.td_journal.proofs.stores.go_on.Goals as goal

pub returns-in-Ok : goal.returns-in-Ok
returns-in-Ok g c =
    let r = c.args.replica in
    went_on (λ k. g.R.Replica.seen k.replica) (λ k. output_of g.J.Writer.Sink k.writer) (λ k. (k.replica ≡ r) × (k.is_open ≡ true)) (g.J.Journals.fails c.args.journals.now) c.args.whole
    g.J.Writer.Sink (g.J.Journal.Source.beside c.args.journal) (g.R.Replica.seen r) c.in-Ok.writer c.keeper_behind.result c.in-Ok.ensures.held c.in-Ok.ensures.writes (λ k is. ap g.R.Replica.seen is.0)
    c.keeper_behind.ensures
