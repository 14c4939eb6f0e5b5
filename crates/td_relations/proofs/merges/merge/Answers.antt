use Rattle.std.proofs.Common.{ap, ◌∙◌, ◌++◌, cond, [], append_assoc, drop, arith}
use Rattle.td_values.specs.Order.{attrs_order}
use Rattle.td_relations.proofs.Walks.{ended, rest_of}
use Rattle.td_relations.proofs.Merging.{walk_is_merge}
use Rattle.td_relations.proofs.merges.merge.Goals as goal
use Rattle.td_relations.proofs.merges.merge.Goals.{then-loop-i-test+else-j-ys, else-loop-i-test}

pub returns : goal.returns
returns c =
    let k = c.args.kept in
    let xs = c.args.xs.now in
    let ys = c.args.ys.now in
    walk_is_merge k xs ys _ c.requires.xs_ascend c.requires.ys_ascend
    (c.in_ok-put_all-2.ensures
    ∙ (λ i. c.in_ok-put_all.ensures i ++ cond k.second (rest_of ys c.loop-i.j i) [])
    ∙ ap (λ r. (c.loop-i.out.items ++ cond k.first r []) ++ cond k.second (drop c.loop-i.j ys) []) (rest_of xs c.loop-i.i)
    ∙ append_assoc c.loop-i.out.items (cond k.first (drop c.loop-i.i xs) []) _
    ∙ ap (λ r. c.loop-i.out.items ++ r) (ended attrs_order k.first k.both k.second xs ys c.loop-i.i c.loop-i.j (λ p q. elim c.loop-i-test.branch [ then-loop-i-test+else-j-ys w ↦ omega arith | else-loop-i-test w ↦ omega arith ]))
    ∙ c.loop-i.invariant.so_far)
