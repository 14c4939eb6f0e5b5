use Rattle.std.proofs.Common.{◌≡◌, [], ◌++◌, ◌∙◌, subst, IfOk}
use Rattle.std.specs.FinMap as by_name
use Rattle.td_values.specs.Data.{attrs_of}
use Rattle.td_tuples.proofs.ByName.{attributes_read}
use Rattle.td_tuples.proofs.tuples.beside.Goals as goal

pub returns : goal.returns
returns c =
    let first = attributes_read c.attributes.result.now c.args.first.now c.attributes.ensures.all in
    let second = attributes_read c.attributes-2.result.now c.args.second.now c.attributes-2.ensures.all in
    let both = c.in_ok-add_attributes-2.ensures c.attributes.result.now (c.in_ok-add_attributes.ensures [] c.new-both.ensures)
    ∙ (λ i. by_name.from_entries (first i ++ second i)) in
    subst (λ m. IfOk c.build.result (λ t. t ≡ attrs_of (by_name.entries m))) both c.build.ensures
