use Rattle.std.proofs.Common.{◌≡◌, true, ap, subst}
use Rattle.std.specs.Prelude.{List, ℕ, Option}
use Rattle.std.specs.Io.KnownBytes.{Keeps}
use Rattle.td_io.specs.Views.{input_of, output_of}
use Rattle.td_journal.proofs.Stored.{kept_on, not_kept}
use Rattle.td_journal.proofs.stores.keep_journal.Goals as goal

pub keep_reopened-requires : goal.keep_reopened-requires
keep_reopened-requires g c =
    subst (λ (b : Option (List ℕ)). Keeps b (g.J.Journal.Source.beside c.take_journal.new.source)) c.in-Ok.ensures.all c.in-Ok-take_journal.ensures.beside

pub returns-in-Ok-take_journal-clause-kept : goal.returns-in-Ok-take_journal-clause-kept
returns-in-Ok-take_journal-clause-kept g c =
    let r = c.in-Ok-take_journal.reopened in
    kept_on (λ k. g.R.Replica.seen k.replica) (λ k. output_of g.J.Writer.Sink k.writer) (λ k. (k.replica ≡ r.replica) × (k.is_open ≡ true)) (g.J.Journals.fails c.args.journals.now) r.whole r.version
    (g.J.Journals.kept c.args.journals.now c.args.name.now) (input_of g.J.Journal.Source c.in-Ok.journal) (input_of g.J.Journal.Source c.take_journal.new.source) (g.R.Replica.seen c.args.replica)
    (g.R.Replica.seen r.replica) c.keep_reopened.result c.in-Ok.ensures.kept c.in-Ok-take_journal.ensures.taken (λ k is. ap g.R.Replica.seen is.0) c.keep_reopened.ensures

pub returns-in-Err-take_journal-clause-kept : goal.returns-in-Err-take_journal-clause-kept
returns-in-Err-take_journal-clause-kept g c =
    not_kept (g.J.Journals.fails c.args.journals.now) (g.J.Journals.kept c.args.journals.now c.args.name.now) (input_of g.J.Journal.Source c.in-Ok.journal) (input_of g.J.Journal.Source c.take_journal.new.source)
    (g.R.Replica.seen c.args.replica) c.in-Err-take_journal.error c.not_reopened.result c.in-Ok.ensures.kept c.in-Err-take_journal.ensures.taken
    (c.in-Ok.ensures.reads c.take_journal.new.source) c.not_reopened.ensures.wanting c.not_reopened.ensures.refused
