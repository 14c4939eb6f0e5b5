use Rattle.std.proofs.Common.{rules, ◌≡◌, true, List, length, refl, sym, ap, subst, ◌∙◌, arith}
use Rattle.td_io.specs.Streams.{AppendsFront}
use Rattle.td_stamps.specs.Vectors.{IsVector}
use Rattle.td_stamps.specs.declared.entry.Entry.{Entry}
use Rattle.td_comparison.specs.Digests.{question_of}
use Rattle.td_comparison.specs.Hashed.{ArePrefixesOf}
use Rattle.td_comparison.specs.declared.digest.SiteDigest.{SiteDigest}
use Rattle.td_checked_meetings.specs.Comparing.{comparison_of}
use Rattle.td_checked_meetings.proofs.comparing.ask.Goals as goal

pub own_question-requires : goal.own_question-requires
own_question-requires g c =
    let same : c.in-Ok.held.now.entries ≡ (g.R.Replica.seen c.args.site.now).entries = search rules in
    subst (λ (l : List Entry). ArePrefixesOf l c.prefixes.result.now) (sym same) c.prefixes.ensures

pub send_comparison-sent-requires : goal.send_comparison-sent-requires
send_comparison-sent-requires g c = omega (arith, ap length c.deref.ensures.value, c.in-Ok-own_question.ensures.few)

pub returns-in-Err-clause-asks : goal.returns-in-Err-clause-asks
returns-in-Err-clause-asks g c =
    let s = g.R.Replica.seen c.args.site.now in
    let v = c.in-Ok-own_question.vector in
    let live : s.live ≡ true = search rules in
    let own : IsVector s.entries v = search rules in
    let same : c.in-Ok.held.now.entries ≡ s.entries = search rules in
    let digests : c.deref.result.now ≡ question_of s.entries v = c.deref.ensures.value ∙ c.in-Ok-own_question.ensures.digests ∙ ap (λ (l : List Entry). question_of l v) same in
    (live, v, own, subst (λ (l : List SiteDigest). AppendsFront (g.K.Sink.held c.args.sink.now) (g.K.Sink.held c.send_comparison-sent.new.sink) (comparison_of s l)) digests c.in-Err.ensures, refl)
