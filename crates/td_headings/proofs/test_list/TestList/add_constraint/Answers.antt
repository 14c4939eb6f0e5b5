use Rattle.std.proofs.Common.{ap, sym, ◌∙◌}
use Rattle.std.specs.List.{list_any}
use Rattle.td_schema.specs.Schemas.{same_text}
use Rattle.td_headings.specs.Definitions.{is_constraint}
use Rattle.td_headings.proofs.TestNames.{found_by_name, one_name_more}
use Rattle.td_headings.proofs.test_list.TestList.add_constraint.Goals as goal

pub put_constraint-requires : goal.put_constraint-requires
put_constraint-requires c =
    let n = c.args.name in
    ap (list_any (same_text n)) c.self.invariant
    ∙ sym (found_by_name n c.self.inside.tests.items)
    ∙ ap (list_any (is_constraint n)) c.self.view_is
    ∙ sym c.has_constraint.ensures
    ∙ c.if-has_constraint.false

pub invariant_of-self-2 : goal.invariant_of-self-2
invariant_of-self-2 c = one_name_more c.self.inside.names.keys c.put_constraint.new.names.keys c.self.inside.tests.items c.put_constraint.new.tests.items c.args.name c.args.tree c.self.invariant c.in-Ok.ensures.names c.in-Ok.ensures.tests
