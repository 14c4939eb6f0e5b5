use Rattle.std.proofs.Common.{ap, sym, ◌∙◌}
use Rattle.td_typed_trees.specs.declared.expression.Expression.{Expression}
use Rattle.td_eval.proofs.Remade.{raised, told_change, told_error}
use Rattle.td_eval.proofs.changes.changed.Goals as goal

pub raise_of-requires : goal.raise_of-requires
raise_of-requires g c =
    let x = c.args.expr.now in
    let tree = sym (c.get-2.ensures ∙ ap (λ (e : Expression). e.tree) c.get.ensures.same) ∙ c.in-Some.ensures in
    raised c.args.catalogue.now x (g.L.Lookup.relvars c.args.lookup.now) c.args.relvar c.in-Some.form c.in-Ok.tuples c.was_defined.ensures c.get.ensures.typed c.requires.expr c.requires.bases c.requires.base c.in-Ok.ensures tree
    c.in-Err-Raised.stop (rw c.in-Err-Raised.field-0-is at c.in-Err-Raised.ensures)

pub returns-in-Ok-change_by_part : goal.returns-in-Ok-change_by_part
returns-in-Ok-change_by_part g c =
    let x = c.args.expr.now in
    let tree = sym (c.get-2.ensures ∙ ap (λ (e : Expression). e.tree) c.get.ensures.same) ∙ c.in-Some.ensures in
    told_change c.args.catalogue.now x (g.L.Lookup.relvars c.args.lookup.now) c.args.relvar c.in-Some.form c.in-Ok.tuples c.was_defined.ensures c.get.ensures.typed c.requires.expr c.requires.bases c.requires.base c.in-Ok.ensures tree
    c.in-Ok-change_by_part.delta c.in-Ok-change_by_part.ensures

pub returns-in-Err-Raised : goal.returns-in-Err-Raised
returns-in-Err-Raised g c =
    let x = c.args.expr.now in
    let tree = sym (c.get-2.ensures ∙ ap (λ (e : Expression). e.tree) c.get.ensures.same) ∙ c.in-Some.ensures in
    told_error c.args.catalogue.now x (g.L.Lookup.relvars c.args.lookup.now) c.args.relvar c.in-Some.form c.in-Ok.tuples c.was_defined.ensures c.get.ensures.typed c.requires.expr c.requires.bases c.requires.base c.in-Ok.ensures tree
    c.raise_of.result c.in-Err-Raised.stop (rw c.in-Err-Raised.field-0-is at c.in-Err-Raised.ensures) c.raise_of.ensures
