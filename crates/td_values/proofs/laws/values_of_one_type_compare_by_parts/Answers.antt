use Rattle.std.proofs.Common.{ap}
use Rattle.std.specs.Ordering.{ordering_then}
use Rattle.td_values.specs.Order.{items_order, tuples_order}
use Rattle.td_values.proofs.FieldLemmas.{fields_tie_themselves, possrep_ties_itself}
use Rattle.td_values.proofs.laws.values_of_one_type_compare_by_parts.Goals as goal

pub returns : goal.returns
returns c = record {
  user_values = λ p is js. ap (λ o. ordering_then o (items_order is js)) (possrep_ties_itself p);
  relations = λ h ts us. ap (λ o. ordering_then o (tuples_order ts us)) (fields_tie_themselves h);
}
