use Rattle.td_meaning.specs.Seen.{mean_in}
use Rattle.td_eval.specs.ForProofs.Forms.{chosen, renewed}
use Rattle.td_eval.proofs.Selecting.{told_untyped, told_update}
use Rattle.td_eval.proofs.changes.update.Goals as goal

pub returns-then-not-same_heading : goal.returns-then-not-same_heading
returns-then-not-same_heading g c =
    let m = mean_in c.args.env.now in
    let r = c.args.tuples.now in
    let x = c.args.change.now in
    told_untyped r c.in_ok-gone.gone c.in_ok-more.more (chosen m x.condition.now r) (renewed m x.items.now) c.in_ok-gone.ensures c.in_ok-more.ensures c.same_heading.result (rw c.get.ensures at c.same_heading.ensures)
    c.if-not-same_heading.true

pub returns : goal.returns
returns g c =
    let m = mean_in c.args.env.now in
    let r = c.args.tuples.now in
    let x = c.args.change.now in
    told_update r c.in_ok-gone.gone c.in_ok-more.more (chosen m x.condition.now r) (renewed m x.items.now) c.in_ok-gone.ensures c.in_ok-more.ensures c.same_heading.result (rw c.get.ensures at c.same_heading.ensures)
    c.if-not-same_heading.false c.in_ok-replacement_of.field-0 c.in_ok-replacement_of.ensures
