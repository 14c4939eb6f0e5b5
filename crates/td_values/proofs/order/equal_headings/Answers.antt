use Rattle.td_values.proofs.FieldLemmas.{same_fields}
use Rattle.td_values.proofs.TupleLemmas.{one_heading}
use Rattle.td_values.proofs.order.equal_headings.Goals as goal

pub returns : goal.returns
returns c = one_heading c.args.a.now c.args.b.now c.is_eq.result (same_fields _ _ c.compare_headings.result c.is_eq.result c.compare_headings.ensures c.is_eq.ensures)
