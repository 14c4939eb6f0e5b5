use Rattle.std.proofs.Common.{◌≡◌, ap, ◌∙◌}
use Rattle.std.specs.Ordering.{is_eq}
use Rattle.td_values.specs.Headings.{header_fields}
use Rattle.td_values.specs.Order.{fields_order}
use Rattle.td_values.specs.Rows.{RowsData}
use Rattle.td_relations.proofs.SameHeadings.{one_heading}
use Rattle.td_relations.proofs.Relation.same_heading.Goals as goal

pub returns : goal.returns
returns c =
    let left : c.self.inside.heading ≡ c.args.self.now.heading = ap (λ (r : RowsData). r.heading) c.self.view_is in
    let right : c.other.inside.heading ≡ c.args.other.now.heading = ap (λ (r : RowsData). r.heading) c.other.view_is in
    one_heading c.args.self.now.heading c.args.other.now.heading c.is_eq.result (c.is_eq.ensures ∙ ap is_eq (c.compare_headings.ensures ∙ (λ i. fields_order (header_fields (left i)) (header_fields (right i)))))
