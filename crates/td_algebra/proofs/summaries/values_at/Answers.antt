use Rattle.std.proofs.Common.{◌∙◌, sym, subst, arith}
use Rattle.td_algebra.specs.Raising.{AnswersBy, all_of}
use Rattle.td_algebra.specs.ForProofs.Gathered.{so_far}
use Rattle.td_algebra.specs.Extending.{Means}
use Rattle.td_algebra.proofs.Walks.{all_more_at, all_done, at_item}
use Rattle.td_algebra.proofs.summaries.values_at.Goals as goal

pub loop-tuple-preserved : goal.loop-tuple-preserved
loop-tuple-preserved g c =
    let term = c.args.term.now in
    let ts = c.args.tuples.now in
    let i = c.loop-tuple.tuple-index in
    let x = c.tuple-item.result in
    let s = so_far c.loop-tuple.gathered.answers.items c.loop-tuple.gathered.least in
    let within = c.loop-tuple-test.true in
    let is = c.tuple-item.is in
    λ m means.
    let a = c.value_of.ensures m (at_item (Means (λ p q. g.F.Fn.post c.args.f.now (p, (q, tt))) m term) ts i x within is means) in
    rw (c.in_ok-note.ensures.noted (m term x) a) (sym (all_more_at (m term) s ts i x within is) ∙ c.loop-tuple.invariant m means)

pub returns : goal.returns
returns g c = λ m means.
    let term = c.args.term.now in
    let ts = c.args.tuples.now in
    let all = all_done (m term) (so_far c.loop-tuple.gathered.answers.items c.loop-tuple.gathered.least) ts c.loop-tuple.tuple-index (all_of (m term) ts) (omega (arith, c.loop-tuple-test.false)) (c.loop-tuple.invariant m means) in
    subst (AnswersBy (λ v. v.items) c.finish.result) all c.finish.ensures.whole
