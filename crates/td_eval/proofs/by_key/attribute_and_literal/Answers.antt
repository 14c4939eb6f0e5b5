use Rattle.std.proofs.Common.{sym, ap, ◌∙◌}
use Rattle.td_typed_trees.specs.declared.tree.Typed.TheVariants as typed
use Rattle.td_eval.proofs.ByKey.{one_equality}
use Rattle.td_eval.proofs.by_key.attribute_and_literal.Goals as goal

pub returns-in_ok-copy-in-Some-2 : goal.returns-in_ok-copy-in-Some-2
returns-in_ok-copy-in-Some-2 c =
    one_equality c.args.a.now c.args.b.now c.in_ok-copy-in-Some-2.field-0 c.in-Some-2.value (c.in-Some.ensures ∙ ap typed.Local (sym c.in_ok-copy-in-Some-2.ensures)) (rw c.in-Some-2.is at c.in_ok-value.ensures)
