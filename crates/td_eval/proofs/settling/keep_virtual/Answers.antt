use Rattle.std.proofs.Common.{refl, sym, subst, ap, ◌∙◌}
use Rattle.td_algebra.specs.Raising.{and_then}
use Rattle.td_meaning.specs.Parts.{AreRight, known_value}
use Rattle.td_meaning.specs.Seen.{mean_in}
use Rattle.td_operators.specs.Operators.{as_value}
use Rattle.td_operators.specs.Values.{rows_of}
use Rattle.td_semantics.specs.Meanings.{no_names}
use Rattle.td_eval.proofs.Settled.{named_means}
use Rattle.td_eval.proofs.settling.keep_virtual.Goals as goal

pub eval-requires : goal.eval-requires
eval-requires c = record {
  right = subst (AreRight c.args.env.now) (sym c.deref.ensures.value) c.requires.right;
  allowed = refl;
}

pub returns-in_err-put : goal.returns-in_err-put
returns-in_err-put c =
    let e = c.args.env.now in
    let means = c.in_ok-value.ensures (mean_in e c.get.result.now no_names) c.eval.ensures ∙ ap (λ u. and_then (and_then (mean_in e u no_names) rows_of) as_value) c.get.ensures in
    c.put.ensures e c.requires.right
    (named_means e c.args.under.now c.requires.theirs c.requires.under c.args.name.now (c.is_relvar.ensures c.if-is_relvar.true) (known_value c.in_ok-value.value) means)

pub returns-in_ok-put : goal.returns-in_ok-put
returns-in_ok-put c =
    let e = c.args.env.now in
    let means = c.in_ok-value.ensures (mean_in e c.get.result.now no_names) c.eval.ensures ∙ ap (λ u. and_then (and_then (mean_in e u no_names) rows_of) as_value) c.get.ensures in
    c.put.ensures e c.requires.right
    (named_means e c.args.under.now c.requires.theirs c.requires.under c.args.name.now (c.is_relvar.ensures c.if-is_relvar.true) (known_value c.in_ok-value.value) means)
