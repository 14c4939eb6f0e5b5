use Rattle.std.proofs.Common.{ap, ◌∙◌, subst}
use Rattle.td_algebra.specs.Raising.{Answers}
use Rattle.td_typed_trees.specs.declared.expression.Expression.{Expression}
use Rattle.td_typed_trees.specs.declared.tree.Typed.{Typed}
use Rattle.td_meaning.specs.Mean.{Meaning}
use Rattle.td_meaning.specs.Seen.{names_bound}
use Rattle.td_eval.specs.ForProofs.Environments.{bases_known}
use Rattle.td_eval.proofs.Settled.{mean_is, theirs}
use Rattle.td_eval.proofs.evaluation.value_of_part.Goals as goal

pub value_over-requires : goal.value_over-requires
value_over-requires g c =
    let x = c.args.expr.now in
    let r = g.L.Lookup.relvars c.args.lookup.now in
    let same = c.get-expression.ensures.same in
    let bases = c.environment-env.ensures.0 ∙ c.deref.ensures.value ∙ c.in_ok-known.ensures ∙ ap (bases_known r) c.as_slice.ensures ∙ ap (λ (y : Expression). bases_known r y.bases) same in
    let virtuals = c.environment-env.ensures.1 ∙ ap (λ (y : Expression). y.virtuals) same in
    let selectors = c.environment-env.ensures.2 ∙ ap (λ (y : Expression). y.selectors) same in
    theirs x r c.environment-env.result bases virtuals selectors c.get-expression.ensures.typed

pub returns : goal.returns
returns g c =
    let x = c.args.expr.now in
    let r = g.L.Lookup.relvars c.args.lookup.now in
    let same = c.get-expression.ensures.same in
    let bases = c.environment-env.ensures.0 ∙ c.deref.ensures.value ∙ c.in_ok-known.ensures ∙ ap (bases_known r) c.as_slice.ensures ∙ ap (λ (y : Expression). bases_known r y.bases) same in
    let virtuals = c.environment-env.ensures.1 ∙ ap (λ (y : Expression). y.virtuals) same in
    let selectors = c.environment-env.ensures.2 ∙ ap (λ (y : Expression). y.selectors) same in
    subst (λ (m : Typed → Meaning). Answers c.value_over.result (m c.args.part.now (names_bound c.args.scope.now)))
    (mean_is x r c.environment-env.result bases virtuals selectors) c.value_over.ensures
