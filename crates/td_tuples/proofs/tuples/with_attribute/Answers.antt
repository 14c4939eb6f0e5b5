use Rattle.std.proofs.Common.{◌≡◌, [], ◌∷◌, ap, ◌∙◌, refl, subst, IfOk}
use Rattle.std.specs.FinMap as by_name
use Rattle.td_values.specs.Data.{attrs_of}
use Rattle.td_tuples.proofs.ByName.{attributes_read}
use Rattle.td_tuples.proofs.Steps.{added}
use Rattle.td_tuples.proofs.tuples.with_attribute.Goals as goal

pub returns : goal.returns
returns c =
    let n = c.args.name in
    let d = c.args.value in
    let rest = attributes_read c.attributes.result.now c.args.tuple.now c.attributes.ensures.all in
    let one = added [] (n, d) n d _ _ _ refl refl c.new-more.ensures c.in_ok-insert.ensures.new c.in_ok-insert.ensures.ok in
    let all = c.in_ok-add_attributes.ensures ((n, d) ∷ []) one ∙ ap (λ xs. by_name.insert (by_name.from_entries xs) n d) rest in
    subst (λ m. IfOk c.build.result (λ t. t ≡ attrs_of (by_name.entries m))) all c.build.ensures
