use Rattle.std.proofs.Common.{◌∙◌, sym, subst, arith}
use Rattle.td_tuples.specs.Unions.{beside, tuple_of}
use Rattle.td_algebra.specs.Raising.{Answers, all_of}
use Rattle.td_algebra.specs.ForProofs.Checking.{checked, least_so_far}
use Rattle.td_algebra.specs.Extending.{Means, field_at, fields_at}
use Rattle.td_algebra.proofs.Checks.{check_done, check_more, checked_made}
use Rattle.td_algebra.proofs.Walks.{at_item}
use Rattle.td_algebra.proofs.extension.check_at.Goals as goal

pub loop-item-preserved : goal.loop-item-preserved
loop-item-preserved g c = λ m means.
    let items = c.args.items.now in
    let t = c.args.tuple.now in
    let i = c.loop-item.item-index in
    let x = c.item-item.result in
    let within = c.loop-item-test.true in
    let is = c.item-item.is in
    let a = c.check_item.ensures m (at_item (λ j. Means (λ p q. g.F.Fn.post c.args.f.now (p, (q, tt))) m j.term t) items i x within is means) in
    let all = checked (all_of (field_at m t) items) in
    rw (c.in_ok-note.ensures.noted (checked (field_at m t x)) a) (check_more (field_at m t) (least_so_far c.loop-item.least.error) items i x all within is (c.loop-item.invariant m means))

pub returns : goal.returns
returns g c = λ m means.
    let items = c.args.items.now in
    let t = c.args.tuple.now in
    let fs = checked (fields_at m items t) in
    let told = check_done (field_at m t) (least_so_far c.loop-item.least.error) items c.loop-item.item-index fs (omega (arith, c.loop-item-test.false)) (c.loop-item.invariant m means) in
    subst (Answers c.finish.result) (told ∙ sym (checked_made (λ fs. beside (tuple_of fs) t) (fields_at m items t))) c.finish.ensures
