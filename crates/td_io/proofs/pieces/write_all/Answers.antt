use Rattle.std.proofs.Common.{rules, ◌++◌, take}
use Rattle.std.proofs.KnownBytes.{Keeps-trans, Appends-trans}
use Rattle.td_io.proofs.Moves.{moves_front}
use Rattle.td_io.proofs.pieces.write_all.Goals as goal

pub loop-rest-preserved : goal.loop-rest-preserved
loop-rest-preserved g c =
    let (done, split, appended, aside, count) = c.loop-rest.invariant in
    let rest = c.loop-rest.rest.now in
    let n = c.in_ok-n.n in
    (done ++ take n rest, moves_front _ done rest n split, Appends-trans _ _ _ _ _ appended c.in_ok-n.ensures.bytes, Keeps-trans _ _ _ aside c.in_ok-n.ensures.aside, search rules)
