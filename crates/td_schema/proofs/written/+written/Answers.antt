use Rattle.std.proofs.Common.{Some, ap, sym, ◌∙◌, subst}
use Rattle.td_values.specs.declared.TypeKind.TheVariants as kind
use Rattle.td_schema.specs.Results.{Fails, where_some}
use Rattle.td_schema.specs.Written.{written, heading_written}
use Rattle.td_schema.proofs.Writings.{of_tuple, of_relation, still_fails, from_first, all_after}
use Rattle.td_schema.proofs.written.+written.Goals as goal

pub written-returns-in-Ok : goal.written-returns-in-Ok
written-returns-in-Ok t c =
    let cat = c.args.schema.now in
    ap (written cat) c.in-Tuple.is ∙ of_tuple cat c.in-Tuple.fields
    ∙ ap (λ o. where_some o (λ h. Some (kind.Tuple h))) (ap (heading_written cat) (sym c.as_slice.ensures) ∙ c.in-Ok.ensures)

pub written-returns-in-Err : goal.written-returns-in-Err
written-returns-in-Err t c =
    let cat = c.args.schema.now in
    let is = ap (heading_written cat) c.as_slice.ensures in
    subst (Fails c.in-Err.error) (sym (ap (written cat) c.in-Tuple.is ∙ of_tuple cat c.in-Tuple.fields))
    (still_fails _ (λ h. Some (kind.Tuple h)) c.in-Err.error (subst (Fails c.in-Err.error) is c.in-Err.ensures))

pub written-returns-in-Ok-heading_written : goal.written-returns-in-Ok-heading_written
written-returns-in-Ok-heading_written t c =
    let cat = c.args.schema.now in
    ap (written cat) c.in-Relation.is ∙ of_relation cat c.in-Relation.fields
    ∙ ap (λ o. where_some o (λ h. Some (kind.Relation h))) (ap (heading_written cat) (sym c.as_slice-in-Relation.ensures) ∙ c.in-Ok-heading_written.ensures)

pub written-returns-in-Err-heading_written : goal.written-returns-in-Err-heading_written
written-returns-in-Err-heading_written t c =
    let cat = c.args.schema.now in
    let is = ap (heading_written cat) c.as_slice-in-Relation.ensures in
    subst (Fails c.in-Err-heading_written.error) (sym (ap (written cat) c.in-Relation.is ∙ of_relation cat c.in-Relation.fields))
    (still_fails _ (λ h. Some (kind.Relation h)) c.in-Err-heading_written.error (subst (Fails c.in-Err-heading_written.error) is c.in-Err-heading_written.ensures))

pub all_written-loop-part-init : goal.all_written-loop-part-init
all_written-loop-part-init t c =
    let f = written c.args.schema.now in
    let parts = c.args.parts.now in
    from_first f parts ∙ ap (λ done. all_after f done parts) (sym c.new-kinds.ensures)
