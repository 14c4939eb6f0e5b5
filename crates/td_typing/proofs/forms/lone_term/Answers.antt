use Rattle.std.proofs.Common.{ap, ◌∙◌}
use Rattle.td_values.specs.View.{ty_of}
use Rattle.td_typing.proofs.PlaceLemmas.{lone_is}
use Rattle.td_typing.proofs.forms.lone_term.Goals as goal

pub returns-in_ok-typed-in-len1 : goal.returns-in_ok-typed-in-len1
returns-in_ok-typed-in-len1 c =
    lone_is c.args.heading.now c.fields.result.now c.index-name-0.result c.index-ty-0.result c.in_ok-copy-in-len1.field-0 c.in_ok-copy-in-len1-2.field-0 c.in_ok-typed-in-len1.field-0
    c.fields.ensures c.in-len1.len_at_least c.in-len1.len_below c.in_ok-copy-in-len1.ensures (ap ty_of c.in_ok-copy-in-len1-2.ensures ∙ c.ty.view_is) c.in_ok-typed-in-len1.ensures
