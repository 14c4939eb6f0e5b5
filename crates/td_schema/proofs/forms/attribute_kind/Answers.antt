use Rattle.std.proofs.Common.{Some, ap, sym, ◌∙◌}
use Rattle.td_schema.specs.Forms.{attribute_kind}
use Rattle.td_schema.specs.Kinds.{kind_of}
use Rattle.td_schema.specs.Results.{where_some}
use Rattle.td_schema.proofs.KindLemmas.{kind_back}
use Rattle.td_schema.proofs.forms.attribute_kind.Goals as goal

pub returns-in-Some : goal.returns-in-Some
unfolding attribute_kind
returns-in-Some c =
    ap Some (sym (kind_back c.ty.inside.kind) ∙ ap kind_of c.ty.view_is)
    ∙ ap (λ o. where_some o (λ ty. Some (kind_of ty))) c.in-Some.ensures
