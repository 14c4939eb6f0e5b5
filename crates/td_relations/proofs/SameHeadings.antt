-- Headings that are compared.
use Rattle.std.proofs.Common.{◌≡◌, ◌↔◌, Bool, sym, ap, ◌∙◌}
use Rattle.std.specs.Bool.{IsTrue}
use Rattle.std.specs.Cmp.{tied_itself}
use Rattle.std.specs.Ordering.{is_eq}
use Rattle.td_values.specs.Data.{tuple_type}
use Rattle.td_values.specs.Headings.{Header, header_fields}
use Rattle.td_values.specs.Order.{fields_order}
use Rattle.td_values.specs.Proving.Total.{fields_tied, ty_order_total}
use Rattle.td_values.proofs.TupleLemmas.{same_header}
use Rattle.td_values.proofs.Walks.{is_tied}

-- two headings are equal where their fields tie
pub one_heading : (g h : Header) (b : Bool) → b ≡ is_eq (fields_order (header_fields g) (header_fields h)) → IsTrue b ↔ (g ≡ h)
one_heading g h b e = (
  λ t. same_header g h (fields_tied (header_fields g) (header_fields h) (is_tied _ (sym e ∙ t))),
  λ p. e ∙ ap is_eq (ap (λ w. fields_order (header_fields g) (header_fields w)) (sym p) ∙ tied_itself ty_order_total (tuple_type (header_fields g))),
)
