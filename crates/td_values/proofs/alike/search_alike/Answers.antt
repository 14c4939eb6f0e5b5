use Rattle.std.proofs.Common.{rules}
use Rattle.std.proofs.lemmas.Fn.{always_returns_same}
use Rattle.td_values.specs.Alike.{values_order}
use Rattle.td_values.proofs.AlikeLemmas.{found_alike}
use Rattle.td_values.proofs.alike.search_alike.Goals as goal

pub returns-clause-position : goal.returns-clause-position
returns-clause-position c =
    let facts = c.binary_search_by.ensures in
    found_alike _ c.args.tuple.now c.requires c.whole_tuples.ensures c.whole_tuple.ensures _ facts.bound
    (facts.position (λ t. values_order t c.args.tuple.now) (always_returns_same _ _ _ (λ a r f' k. (search rules, search rules))))
