use Rattle.std.proofs.Common.{ap, sym, ◌∙◌}
use Rattle.td_values.specs.Data.{no_attrs}
use Rattle.td_algebra.specs.Raising.{and_then}
use Rattle.td_operators.specs.Values.{rows_of}
use Rattle.td_semantics.specs.Trees.{tree_means}
use Rattle.td_semantics.specs.Databases.{stored_relvars}
use Rattle.td_relvars.proofs.Asked.{name_means}
use Rattle.td_relvars.proofs.asking.evaluated.Goals as goal

pub returns-in-Ok : goal.returns-in-Ok
returns-in-Ok c =
    let d = c.args.database.now in
    let r = stored_relvars d.stored in
    let u = c.in_ok-expr.expr.tree in
    sym (name_means d.catalogue r c.args.place u c.in_ok-expr.ensures.tree)
    ∙ ap (λ k. and_then (tree_means k r u no_attrs) rows_of) (sym c.catalogue-2.ensures.same)
    ∙ c.in-Ok.ensures.told

pub returns-in-Err-Raised : goal.returns-in-Err-Raised
returns-in-Err-Raised c =
    let d = c.args.database.now in
    let r = stored_relvars d.stored in
    let u = c.in_ok-expr.expr.tree in
    sym (name_means d.catalogue r c.args.place u c.in_ok-expr.ensures.tree)
    ∙ ap (λ k. and_then (tree_means k r u no_attrs) rows_of) (sym c.catalogue-2.ensures.same)
    ∙ (rw c.in-Err-Raised.field-0-is at c.in-Err-Raised.ensures.told)
