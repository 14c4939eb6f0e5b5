use Rattle.std.specs.FinSet as set
use Rattle.td_relations.specs.Sets.{body}
use Rattle.td_algebra.proofs.Lists.{contains_in, in_contains}
use Rattle.td_algebra.proofs.Pairs.{entry_of, of_entry}
use Rattle.td_algebra.proofs.Distinct.{alike}
use Rattle.td_algebra.proofs.keyed_minus.has.Goals as goal

pub returns : goal.returns
returns c =
    let r = c.args.relation.now in
    let ts = c.args.index.now.tuples in
    let t = c.args.tuple.now in
    let of = c.requires.tuples in
    alike c.contains.result (set.contains (body r) t)
    (λ h. entry_of r ts of t (contains_in ts t (c.contains.ensures.0 h)))
    (λ h. c.contains.ensures.1 (in_contains ts t (of_entry r ts of t h)))
