use Rattle.std.proofs.Common.{◌<◌, ◌≤◌, List, length, refl, ◌∙◌, subst, arith}
use Rattle.std.proofs.lemmas.List.{length-set}
use Rattle.td_algebra.specs.KeyIndexes.{KeyIndexData}
use Rattle.td_accesses.proofs.Growing.{all_linked, links_in_turn, links_themselves, one_further, set_links}
use Rattle.td_accesses.proofs.links.put_in_all.Goals as goal

pub loop-at-init : goal.loop-at-init
loop-at-init c = record { kept = links_themselves c.args.links.now.items; long = refl; there = λ j d none. absurd (omega (arith, none)) }

pub returns-then-not-branch-clause-kept : goal.returns-then-not-branch-clause-kept
returns-then-not-branch-clause-kept c =
    let l = c.loop-at in
    let xs = l.links.items in
    let x = c.index_mut.result.now in
    let test = subst (λ (ys : List KeyIndexData). l.at < length ys) c.as_slice-many.ensures.value c.loop-at-test.true in
    let long = l.invariant.long in
    links_in_turn c.args.links.now.items xs _ l.invariant.kept (set_links xs l.at x c.put_in.new.index (omega (arith, test, long)) c.index_mut.ensures.value c.in_ok-put_in.ensures.kept)

pub loop-at-preserved : goal.loop-at-preserved
loop-at-preserved c =
    let l = c.loop-at in
    let xs = l.links.items in
    let x = c.index_mut.result.now in
    let y = c.put_in.new.index in
    let test = subst (λ (ys : List KeyIndexData). l.at < length ys) c.as_slice-many.ensures.value c.loop-at-test.true in
    let long = l.invariant.long in
    let lt : l.at < length xs = omega (arith, test, long) in
    record {
      kept = links_in_turn c.args.links.now.items xs _ l.invariant.kept (set_links xs l.at x y lt c.index_mut.ensures.value c.in_ok-put_in.ensures.kept);
      long = length-set xs l.at y ∙ long;
      there = one_further c.args.relation.now xs l.at y lt l.invariant.there (c.in_ok-put_in.ensures.there c.if-not-branch.false);
    }

pub returns-clause-there : goal.returns-clause-there
returns-clause-there c = λ _.
    let l = c.loop-at in
    let end = subst (λ (ys : List KeyIndexData). length ys ≤ l.at) c.as_slice-many.ensures.value c.loop-at-test.false in
    let long = l.invariant.long in
    all_linked c.args.relation.now l.links.items l.at (omega (arith, end, long)) l.invariant.there
