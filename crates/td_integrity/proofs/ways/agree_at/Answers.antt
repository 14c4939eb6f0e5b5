use Rattle.std.proofs.Common.{rules, ◌≡◌, Some, is_eq, sym, ap, ◌∙◌}
use Rattle.td_values.specs.Attributes.{attribute_of}
use Rattle.td_values.specs.Order.{order}
use Rattle.td_values.specs.Proving.Total.{tied}
use Rattle.td_values.proofs.Walks.{is_tied}
use Rattle.td_integrity.proofs.ways.agree_at.Goals as goal

pub returns-in-Some-Some : goal.returns-in-Some-Some
returns-in-Some-Some c = λ same.
    let x = c.in-Some-Some.x.now in
    let y = c.in-Some-Some.y.now in
    let first : attribute_of c.args.name.now c.args.a.now ≡ Some x = search rules in
    let second : attribute_of c.args.name.now c.args.b.now ≡ Some y = search rules in
    let one : x ≡ y = tied x y (is_tied (order x y) (sym (ap is_eq c.compare.ensures) ∙ sym c.is_eq.ensures ∙ same)) in
    first ∙ ap Some one ∙ sym second
