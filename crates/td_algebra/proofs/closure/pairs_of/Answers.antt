use Rattle.std.proofs.Common.{◌≡◌, ◌<◌, ◌++◌, length, sym, ap, ◌∙◌, subst, arith}
use Rattle.std.specs.List.{All, flat_map}
use Rattle.td_algebra.specs.ForProofs.Ends.{ArePairs, pair_at}
use Rattle.td_algebra.proofs.Ending.{reached_within, pairs_none, pairs_more}
use Rattle.td_algebra.proofs.closure.pairs_of.Goals as goal

pub add_pairs-requires-clause-places : goal.add_pairs-requires-clause-places
add_pairs-requires-clause-places c =
    let links = c.args.links.now in
    let places = c.in_ok-places.places.items in
    let within = reached_within (length links) links c.loop-from.from places c.requires.within c.in_ok-places.ensures.reached in
    subst (All (λ w. w < length c.args.ends.now)) (sym c.deref.ensures.value) (subst (λ n. All (λ w. w < n) places) c.requires.many within)

pub loop-from-init : goal.loop-from-init
loop-from-init c = record {
  pairs = pairs_none c.args.first.now c.args.second.now c.args.ends.now c.args.links.now c.new-pairs.result.items c.new-pairs.ensures.items;
  unmarked = c.in_ok-marks.ensures;
}

pub loop-from-preserved : goal.loop-from-preserved
loop-from-preserved c =
    let a = c.args.first.now in
    let b = c.args.second.now in
    let ends = c.args.ends.now in
    let out = c.loop-from.pairs.items in
    let n = c.loop-from.from in
    record {
      pairs = pairs_more a b ends c.args.links.now n out c.in_ok-places.places.items c.add_pairs.new.out.items c.loop-from.invariant.pairs c.in_ok-places.ensures.reached
          (c.in_ok-add_pairs.ensures ∙ ap (λ ws. out ++ flat_map (pair_at a b ends n) ws) c.deref.ensures.value);
      unmarked = c.in_ok-places.ensures.unmarked ∙ c.loop-from.invariant.unmarked;
    }

pub returns : goal.returns
returns c =
    let ended : c.loop-from.from ≡ length c.args.ends.now = omega arith in
    subst (λ n. ArePairs c.args.first.now c.args.second.now c.args.ends.now c.args.links.now n c.loop-from.pairs.items) ended c.loop-from.invariant.pairs
