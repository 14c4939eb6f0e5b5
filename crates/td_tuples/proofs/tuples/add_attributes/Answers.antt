use Rattle.std.proofs.Common.{◌++◌, take, ap, ◌∙◌, arith}
use Rattle.std.specs.FinMap as by_name
use Rattle.td_tuples.proofs.Steps.{added, taken_after}
use Rattle.td_tuples.proofs.tuples.add_attributes.Goals as goal

pub loop-name-preserved : goal.loop-name-preserved
loop-name-preserved c es start =
    let ws = c.args.attributes.now in
    let i = c.loop-name.name-index in
    let x = c.loop-name-item.result in
    added (es ++ take i ws) x _ _ _ _ _ c.in_ok-copy.ensures c.in_ok-copy-2.ensures (c.loop-name.invariant es start) c.in_ok-insert.ensures.new c.in_ok-insert.ensures.ok
    ∙ ap by_name.from_entries (taken_after ws i x (omega arith) c.loop-name-item.is es)
