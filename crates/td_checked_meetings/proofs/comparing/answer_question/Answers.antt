use Rattle.std.proofs.Common.{rules, ◌≡◌, true, List, refl, subst}
use Rattle.std.specs.Io.KnownBytes.{Appends}
use Rattle.td_io.specs.Streams.{AppendsFront}
use Rattle.td_comparison.specs.declared.digest.SiteDigest.{SiteDigest}
use Rattle.td_stamps.specs.Vectors.{IsVector}
use Rattle.td_checked_meetings.specs.Comparing.{comparison_of}
use Rattle.td_checked_meetings.proofs.Comparisons.{answers}
use Rattle.td_checked_meetings.proofs.comparing.answer_question.Goals as goal

pub returns-in-Ok-sent-clause-answers : goal.returns-in-Ok-sent-clause-answers
returns-in-Ok-sent-clause-answers g c =
    let s = g.R.Replica.seen c.args.site.now in
    let f = c.in-Ok-answer_to.answer in
    let live : s.live ≡ true = search rules in
    let own : IsVector s.entries c.in-Ok-vector.vector = search rules in (
      live,
      c.in-Ok-read_comparison.ensures.ok.0,
      f.digests.items,
      answers s c.in-Ok-vector.vector c.args.question.now c.in-Ok-read_comparison.comparison f own c.in-Ok-read_comparison.ensures.ok.1 c.in-Ok-answer_to.ensures.finds,
      subst (λ (l : List SiteDigest). Appends (g.K.Sink.held c.args.sink.now) (g.K.Sink.held c.send_comparison-sent.new.sink) (comparison_of s l)) c.deref.ensures.value c.in-Ok-sent.ensures,
    )

pub returns-clause-answers : goal.returns-clause-answers
returns-clause-answers g c =
    let s = g.R.Replica.seen c.args.site.now in
    let f = c.in-Ok-answer_to.answer in
    let live : s.live ≡ true = search rules in
    let own : IsVector s.entries c.in-Ok-vector.vector = search rules in (
      live,
      c.in-Ok-read_comparison.ensures.ok.0,
      record { vector = c.in-Ok-vector.vector; left_out = f.differing },
      f.digests.items,
      answers s c.in-Ok-vector.vector c.args.question.now c.in-Ok-read_comparison.comparison f own c.in-Ok-read_comparison.ensures.ok.1 c.in-Ok-answer_to.ensures.finds,
      subst (λ (l : List SiteDigest). AppendsFront (g.K.Sink.held c.args.sink.now) (g.K.Sink.held c.send_comparison-sent.new.sink) (comparison_of s l)) c.deref.ensures.value c.in-Err-sent.ensures,
      refl,
    )
