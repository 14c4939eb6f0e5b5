use Rattle.std.proofs.Common.{ap, ◌∙◌, ◌++◌, ◌<◌, length, arith}
use Rattle.td_values.specs.Order.{attrs_order}
use Rattle.td_relations.specs.Merges.{first_alone, second_alone}
use Rattle.td_relations.proofs.Walks.{left_of_first, left_of_second, rest_of}
use Rattle.td_relations.proofs.Merging.{walk_is_merge}
use Rattle.td_relations.proofs.merges.split_differences.Goals as goal
use Rattle.td_relations.proofs.merges.split_differences.Goals.{then-loop-i-test+else-j-ys, else-loop-i-test}

pub returns : goal.returns
returns c =
    let xs = c.args.xs.now in
    let ys = c.args.ys.now in
    let end : c.loop-i.i < length xs → c.loop-i.j < length ys → ⊥ = λ p q. elim c.loop-i-test.branch [ then-loop-i-test+else-j-ys w ↦ omega arith | else-loop-i-test w ↦ omega arith ] in (
      walk_is_merge first_alone xs ys _ c.requires.xs_ascend c.requires.ys_ascend
          (c.in_ok-append.ensures
          ∙ ap (λ r. c.loop-i.firsts.items ++ r) (rest_of xs c.loop-i.i ∙ left_of_first attrs_order xs ys c.loop-i.i c.loop-i.j end)
          ∙ c.loop-i.invariant.of_first),
      walk_is_merge second_alone xs ys _ c.requires.xs_ascend c.requires.ys_ascend
          (c.in_ok-append-2.ensures
          ∙ ap (λ r. c.loop-i.seconds.items ++ r) (rest_of ys c.loop-i.j ∙ left_of_second attrs_order xs ys c.loop-i.i c.loop-i.j end)
          ∙ c.loop-i.invariant.of_second),
    )
