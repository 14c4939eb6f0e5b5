use Rattle.std.proofs.Common.{◌≡◌, sym, ap, ◌∙◌}
use Rattle.td_values.specs.declared.TypeKind.TheVariants as type_kind
use Rattle.td_values.proofs.FieldLemmas.{same_name}
use Rattle.td_values.proofs.order.equal_kinds.Goals as goal

pub returns-in-User-User : goal.returns-in-User-User
returns-in-User-User c =
    let same = same_name c.in-User-User.m c.in-User-User.n c.eq.result c.eq.ensures in (
      λ t. c.in-User-User.is-0 ∙ ap type_kind.User (same.0 t) ∙ sym c.in-User-User.is-1,
      λ e. same.1 (let names : type_kind.User c.in-User-User.m ≡ type_kind.User c.in-User-User.n = sym c.in-User-User.is-0 ∙ e ∙ c.in-User-User.is-1 in cc),
    )
