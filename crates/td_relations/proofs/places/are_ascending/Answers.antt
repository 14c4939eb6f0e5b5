use Rattle.std.proofs.Common.{◌≡◌, is_lt, rules}
use Rattle.std.proofs.lemmas.Fn.{always_returns_same}
use Rattle.td_values.specs.Alike.{values_order}
use Rattle.td_values.specs.Data.{Attrs}
use Rattle.td_relations.proofs.Ascending.{ascends}
use Rattle.td_relations.proofs.places.are_ascending.Goals as goal

pub returns : goal.returns
returns c = λ yes.
    let below : Attrs → Attrs → _ = λ (s t : Attrs). is_lt (values_order s t) in
    let cases = c.is_sorted_by.ensures.cases below (always_returns_same _ (λ a r. r ≡ below a.0.now a.1.0.now) _ (λ a r f' k. search rules)) in
    ascends c.args.tuples.now c.requires c.whole_tuples.ensures (rw yes at cases)
