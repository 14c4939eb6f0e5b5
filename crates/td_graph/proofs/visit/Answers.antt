use Rattle.std.proofs.Common.{◌<◌, length, true, sym, subst, arith}
use Rattle.std.specs.Prelude.{slice_set}
use Rattle.td_graph.specs.ForProofs.{IsMarked}
use Rattle.td_graph.proofs.Walks.{marked_more, read_false}
use Rattle.td_graph.proofs.visit.Goals as goal

pub returns-clause-marked : goal.returns-clause-marked
returns-clause-marked c =
    let marks = c.args.marks.now.items in
    let within : c.args.place < length marks = omega (arith, c.args.marks.now.ok, c.if-place-len.false, c.len.ensures) in
    subst (IsMarked (slice_set marks c.args.place true)) (sym c.in_ok-push.ensures.items)
    (marked_more marks c.args.places.now.items c.args.place c.requires.marked within (read_false marks c.args.place c.index.result.now within c.index.ensures c.if-index.false))
