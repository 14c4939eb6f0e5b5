use Rattle.std.proofs.Common.{◌≡◌, sym, ap, ◌∙◌, subst, IfOk}
use Rattle.td_values.specs.View.{ty_of}
use Rattle.td_values.specs.Headings.{Header}
use Rattle.td_tuples.proofs.Inner.{tuple_columns, relation_columns}
use Rattle.td_tuples.proofs.nestings.columns_of_type.Goals as goal

pub returns-in-Tuple : goal.returns-in-Tuple
returns-in-Tuple c =
    subst (λ (w : Header). IfOk c.copy.result (λ h. h ≡ w)) (tuple_columns c.args.ty.now c.in-Tuple.h (sym (ap ty_of c.in-Tuple.is) ∙ c.ty.view_is)) c.copy.ensures

pub returns-in-Relation : goal.returns-in-Relation
returns-in-Relation c =
    subst (λ (w : Header). IfOk c.copy-in-Relation.result (λ h. h ≡ w)) (relation_columns c.args.ty.now c.in-Relation.h (sym (ap ty_of c.in-Relation.is) ∙ c.ty.view_is)) c.copy-in-Relation.ensures
