use Rattle.std.proofs.Common.{refl, sym, subst}
use Rattle.td_meaning.specs.Parts.{AreRight}
use Rattle.td_eval.proofs.changes.exchange_over.Goals as goal

pub exchange-requires : goal.exchange-requires
exchange-requires c = record {
  right = subst (AreRight c.args.env.now) (sym c.deref.ensures.value) c.loop.invariant;
  allowed = refl;
}

pub last_exchange-requires : goal.last_exchange-requires
last_exchange-requires c = subst (AreRight c.args.env.now) (sym c.deref-2.ensures.value) c.loop.invariant
