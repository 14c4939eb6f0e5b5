use Rattle.std.proofs.Common.{refl, sym, subst}
use Rattle.td_meaning.specs.Parts.{AreRight}
use Rattle.td_eval.proofs.evaluation.value_over.Goals as goal

pub eval-requires : goal.eval-requires
eval-requires c = record {
  right = subst (AreRight c.args.env.now) (sym c.deref.ensures.value) c.loop.invariant;
  allowed = refl;
}

pub last_value-requires : goal.last_value-requires
last_value-requires c = subst (AreRight c.args.env.now) (sym c.deref-2.ensures.value) c.loop.invariant
