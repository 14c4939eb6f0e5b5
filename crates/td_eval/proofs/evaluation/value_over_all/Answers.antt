use Rattle.std.proofs.Common.{◌∙◌, ap, subst}
use Rattle.td_algebra.specs.Raising.{Answers}
use Rattle.td_meaning.specs.Mean.{Meaning}
use Rattle.td_meaning.specs.Seen.{none_virtual, names_bound}
use Rattle.td_typed_trees.specs.declared.tree.Typed.{Typed}
use Rattle.td_eval.proofs.Settled.{all_mean, nothing_right}
use Rattle.td_eval.proofs.evaluation.value_over_all.Goals as goal

pub eval-requires : goal.eval-requires
eval-requires c = record {
  right = nothing_right c.those.result;
  allowed = ap none_virtual c.those.ensures.1;
}

pub returns : goal.returns
returns c =
    subst (λ (m : Typed → Meaning). Answers c.eval.result (m c.args.part.now (names_bound c.args.scope.now)))
    (all_mean c.args.env.now c.those.result (c.those.ensures.0 ∙ c.deref.ensures.value ∙ c.in_ok-relvars.ensures) c.those.ensures.1 c.those.ensures.2) c.eval.ensures
