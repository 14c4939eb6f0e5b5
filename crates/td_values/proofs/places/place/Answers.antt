use Rattle.std.proofs.Common.{rules}
use Rattle.std.proofs.lemmas.Fn.{always_returns_same}
use Rattle.td_values.specs.Order.{text_cmp}
use Rattle.td_values.proofs.Entries.{searched}
use Rattle.td_values.proofs.places.place.Goals as goal

pub returns-clause-found : goal.returns-clause-found
returns-clause-found g c =
    let facts = c.binary_search_by.ensures in
    (searched _ c.args.name.now c.requires _ facts.bound (facts.position (λ e. text_cmp e.0 c.args.name.now) (always_returns_same _ _ _ (λ a r f' k. (search rules, search rules))))).found

pub returns-clause-absent : goal.returns-clause-absent
returns-clause-absent g c =
    let facts = c.binary_search_by.ensures in
    (searched _ c.args.name.now c.requires _ facts.bound (facts.position (λ e. text_cmp e.0 c.args.name.now) (always_returns_same _ _ _ (λ a r f' k. (search rules, search rules))))).absent
