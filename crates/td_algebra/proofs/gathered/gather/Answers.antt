use Rattle.std.proofs.Common.{get_or, sym, ◌∙◌, subst, arith}
use Rattle.td_algebra.specs.Raising.{AnswersBy, all_of}
use Rattle.td_algebra.specs.ForProofs.Gathered.{so_far}
use Rattle.td_algebra.proofs.Walks.{all_more, all_done}
use Rattle.td_algebra.proofs.gathered.gather.Goals as goal

pub loop-tuple-preserved : goal.loop-tuple-preserved
loop-tuple-preserved g c = λ m h.
    let i = c.loop-tuple.invariant m h in
    let t = c.tuple-item.result in
    let a = h c.loop-tuple.tuple-index t c.loop-tuple-test.true c.f.result (record { shown = _; shows = c.tuple-item.is; says = record { met = c.f.ensures } }) in
    let e = c.in_ok-note.ensures.noted (m (get_or c.args.tuples.now c.loop-tuple.tuple-index t)) a in
    rw e (sym (all_more m (so_far c.loop-tuple.gathered.answers.items c.loop-tuple.gathered.least) c.args.tuples.now c.loop-tuple.tuple-index t c.loop-tuple-test.true) ∙ i)

pub returns : goal.returns
returns g c = λ m h.
    let i = c.loop-tuple.invariant m h in
    let ts = c.args.tuples.now in
    subst (AnswersBy (λ v. v.items) c.finish.result) (all_done m (so_far c.loop-tuple.gathered.answers.items c.loop-tuple.gathered.least) ts c.loop-tuple.tuple-index (all_of m ts) (omega (arith, c.loop-tuple-test.false)) i) c.finish.ensures.whole
