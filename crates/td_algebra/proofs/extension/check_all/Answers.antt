use Rattle.std.proofs.Common.{subst, arith}
use Rattle.std.specs.List.{All}
use Rattle.td_algebra.specs.Raising.{Answers, all_of}
use Rattle.td_algebra.specs.ForProofs.Checking.{checked, least_so_far}
use Rattle.td_algebra.specs.Extending.{Means, extended_at}
use Rattle.td_algebra.proofs.Checks.{check_done, check_more}
use Rattle.td_algebra.proofs.Walks.{at_item}
use Rattle.td_algebra.proofs.extension.check_all.Goals as goal

pub loop-tuple-preserved : goal.loop-tuple-preserved
loop-tuple-preserved g c = λ m means.
    let items = c.args.items.now in
    let ts = c.args.tuples.now in
    let i = c.loop-tuple.tuple-index in
    let t = c.tuple-item.result in
    let within = c.loop-tuple-test.true in
    let is = c.tuple-item.is in
    let a = c.check_at.ensures m (at_item (λ u. All (λ j. Means (λ p q. g.F.Fn.post c.args.f.now (p, (q, tt))) m j.term u) items) ts i t within is means) in
    let all = checked (all_of (extended_at m items) ts) in
    rw (c.in_ok-note.ensures.noted (checked (extended_at m items t)) a) (check_more (extended_at m items) (least_so_far c.loop-tuple.least.error) ts i t all within is (c.loop-tuple.invariant m means))

pub returns : goal.returns
returns g c = λ m means.
    let items = c.args.items.now in
    let ts = c.args.tuples.now in
    let all = checked (all_of (extended_at m items) ts) in
    subst (Answers c.finish.result) (check_done (extended_at m items) (least_so_far c.loop-tuple.least.error) ts c.loop-tuple.tuple-index all (omega (arith, c.loop-tuple-test.false)) (c.loop-tuple.invariant m means)) c.finish.ensures
