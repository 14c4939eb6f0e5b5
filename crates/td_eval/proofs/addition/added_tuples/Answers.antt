use Rattle.std.proofs.Common.{ap, sym, ◌∙◌}
use Rattle.td_typed_trees.specs.declared.expression.Expression.{Expression}
use Rattle.td_eval.proofs.United.{raised, told_error, told_more}
use Rattle.td_eval.proofs.addition.added_tuples.Goals as goal

pub raise_of-requires : goal.raise_of-requires
raise_of-requires g c =
    let x = c.args.expr.now in
    let form = sym (c.get-2.ensures ∙ ap (λ (e : Expression). e.tree) c.get.ensures.same) ∙ c.in-Some.ensures in
    raised c.args.catalogue.now x (g.L.Lookup.relvars c.args.lookup.now) c.args.relvar c.in-Some.part.now c.requires.relation.0 c.was_defined.ensures c.get.ensures.typed c.requires.expr c.requires.bases c.requires.base c.requires.relation.1 form
    c.in-Err-Raised.stop (rw c.in-Err-Raised.field-0-is at c.in-Err-Raised.ensures)

pub returns-in-Ok : goal.returns-in-Ok
returns-in-Ok g c =
    let x = c.args.expr.now in
    let form = sym (c.get-2.ensures ∙ ap (λ (e : Expression). e.tree) c.get.ensures.same) ∙ c.in-Some.ensures in
    told_more c.args.catalogue.now x (g.L.Lookup.relvars c.args.lookup.now) c.args.relvar c.in-Some.part.now c.requires.relation.0 c.was_defined.ensures c.get.ensures.typed c.requires.expr c.requires.bases c.requires.base c.requires.relation.1 form
    c.in-Ok.more c.in-Ok.ensures

pub returns-in-Err-Raised : goal.returns-in-Err-Raised
returns-in-Err-Raised g c =
    let x = c.args.expr.now in
    let form = sym (c.get-2.ensures ∙ ap (λ (e : Expression). e.tree) c.get.ensures.same) ∙ c.in-Some.ensures in
    told_error c.args.catalogue.now x (g.L.Lookup.relvars c.args.lookup.now) c.args.relvar c.in-Some.part.now c.requires.relation.0 c.was_defined.ensures c.get.ensures.typed c.requires.expr c.requires.bases c.requires.base c.requires.relation.1 form
    c.raise_of.result c.in-Err-Raised.stop (rw c.in-Err-Raised.field-0-is at c.in-Err-Raised.ensures) c.raise_of.ensures
