use Rattle.std.proofs.Common.{◌∙◌, ap, subst}
use Rattle.td_meaning.specs.Mean.{Meaning}
use Rattle.td_meaning.specs.Seen.{none_virtual}
use Rattle.td_typed_trees.specs.declared.tree.Typed.{Typed}
use Rattle.td_eval.specs.ForProofs.Forms.{TellsForm, form_means}
use Rattle.td_eval.proofs.Settled.{all_mean, nothing_right}
use Rattle.td_eval.proofs.changes.exchange_over_all.Goals as goal

pub exchange-requires : goal.exchange-requires
exchange-requires c = record {
  right = nothing_right c.those.result;
  allowed = ap none_virtual c.those.ensures.1;
}

pub returns : goal.returns
returns c =
    let q = c.args.tuples.now in
    subst (λ (m : Typed → Meaning). TellsForm q (form_means m q c.args.form.now) c.exchange.result)
    (all_mean c.args.env.now c.those.result (c.those.ensures.0 ∙ c.deref.ensures.value ∙ c.in_ok-relvars.ensures) c.those.ensures.1 c.those.ensures.2) c.exchange.ensures
