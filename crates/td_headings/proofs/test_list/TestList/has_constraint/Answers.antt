use Rattle.std.proofs.Common.{ap, sym, ◌∙◌}
use Rattle.std.specs.List.{list_any}
use Rattle.td_schema.specs.Schemas.{same_text}
use Rattle.td_headings.specs.Definitions.{is_constraint}
use Rattle.td_headings.proofs.TestNames.{found_by_name}
use Rattle.td_headings.proofs.test_list.TestList.has_constraint.Goals as goal

pub returns : goal.returns
returns c =
    let n = c.args.name.now in
    c.contains.ensures
    ∙ ap (list_any (same_text n)) c.self.invariant
    ∙ sym (found_by_name n c.self.inside.tests.items)
    ∙ ap (list_any (is_constraint n)) c.self.view_is
