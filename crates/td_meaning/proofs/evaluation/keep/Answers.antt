use Rattle.std.proofs.Common.{◌≡◌, IfSome, sym, subst}
use Rattle.td_meaning.specs.Mean.{Names}
use Rattle.td_meaning.specs.Parts.{AreRight, known_value}
use Rattle.td_meaning.specs.Seen.{mean_in}
use Rattle.td_meaning.proofs.evaluation.keep.Goals as goal

pub with_parts-evaluator-requires : goal.with_parts-evaluator-requires
with_parts-evaluator-requires g c = record {
  right = subst (AreRight c.args.env.now) (sym c.as_slice.ensures.value) c.requires.right;
  allowed = c.requires.allowed;
}

pub returns-in_err-put_if : goal.returns-in_err-put_if
returns-in_err-put_if g c =
    c.put_if.ensures c.args.env.now c.requires.right
    (subst (λ e. IfSome c.in_ok-value.value (λ w. (names : Names) → mean_in e c.args.tree.now names ≡ known_value w)) c.with_parts-evaluator.ensures c.in_ok-value.ensures)

pub returns : goal.returns
returns g c =
    c.put_if.ensures c.args.env.now c.requires.right
    (subst (λ e. IfSome c.in_ok-value.value (λ w. (names : Names) → mean_in e c.args.tree.now names ≡ known_value w)) c.with_parts-evaluator.ensures c.in_ok-value.ensures)
