use Rattle.std.proofs.Common.{List, subst}
use Rattle.td_headings.specs.declared.defined.Test.{Test}
use Rattle.td_accesses.specs.ForProofs.Growing.{AreAllBy}
use Rattle.td_accesses.proofs.Growing.{are_kept}
use Rattle.td_accesses.proofs.accesses.add_to.Goals as goal

pub returns-clause-told : goal.returns-clause-told
returns-clause-told c = λ _.
    let g = c.args.insertions.now in
    let s = c.args.relation.now in
    let xs = c.keep_by_keys.new.indexes.items in
    record {
      reads_ = c.in_ok-add_places.ensures.added;
      writes_ = c.in_ok-add_places-2.ensures.added;
      kept = are_kept c.args.catalogue.now g.relvar s xs (subst (λ (ts : List Test). AreAllBy ts g.relvar s xs) c.tests-tests.ensures.tests (c.in_ok-keep_by_keys.ensures.there c.if-not-branch.false));
      linked = c.in_ok-put_in_all.ensures.there c.if-not-branch-2.false;
    }
