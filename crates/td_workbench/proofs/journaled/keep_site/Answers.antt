use Rattle.std.proofs.Common.{List, ℕ, ap, subst, ◌∙◌}
use Rattle.td_io.specs.Views.{output_of}
use Rattle.td_replica.specs.Seen.{Seen}
use Rattle.td_journal.specs.Stores.{GoesOn}
use Rattle.td_workbench.specs.Journals.{journal_name}
use Rattle.td_workbench.proofs.Journaling.{seen_within}
use Rattle.td_workbench.proofs.journaled.keep_site.Goals as goal

pub returns-in-Ok-keep_journal : goal.returns-in-Ok-keep_journal
returns-in-Ok-keep_journal g c =
    let s = g.R.Replica.seen c.args.site in
    let k = c.in-Ok-keep_journal.keeper in
    let w = output_of g.J.Writer.Sink k.writer in
    let after = g.R.Replica.seen k.replica in
    let journals = g.J.Journals.kept c.args.journals.now in
    let name = c.deref.ensures ∙ c.in-Ok.ensures ∙ ap (λ (n : ℕ). journal_name c.args.prefix.now n) c.site.ensures.number in
    subst (λ (t : Seen). GoesOn (journals (journal_name c.args.prefix.now s.site)) s t w) (seen_within k.is_open after c.in-Ok-keep_journal.ensures.open)
    (subst (λ (l : List ℕ). GoesOn (journals l) s after w) name c.in-Ok-keep_journal.ensures.kept)
