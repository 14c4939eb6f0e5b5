use Rattle.std.proofs.Common.{subst, arith}
use Rattle.std.specs.List.{All, Contains}
use Rattle.std.proofs.lemmas.List.{take_all}
use Rattle.td_accesses.proofs.Growing.{all_in_places, in_both, more_places}
use Rattle.td_accesses.proofs.places.add_places.Goals as goal

pub loop-place-preserved : goal.loop-place-preserved
loop-place-preserved c =
    let xs = c.loop-place.all.items in
    let ys = c.add_place.new.all.items in
    let i = c.loop-place.place-index in
    let places = c.args.places.now in
    record {
      kept = in_both c.args.all.now.items xs ys c.loop-place.invariant.kept c.in_ok-add_place.ensures.kept;
      added = more_places places i 0 xs ys c.loop-place-test.true c.in_ok-add_place.ensures.kept c.in_ok-add_place.ensures.added c.loop-place.invariant.added;
    }

pub returns-clause-added : goal.returns-clause-added
returns-clause-added c =
    let places = c.args.places.now in
    let ys = c.loop-place.all.items in
    let end = c.loop-place-test.false in
    all_in_places places ys (subst (All (Contains ys)) (take_all c.loop-place.place-index places (omega (arith, end))) c.loop-place.invariant.added)
