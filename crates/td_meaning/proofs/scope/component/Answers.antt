use Rattle.std.proofs.Common.{◌≤◌, ◌⊎◌, length, sym, ◌∙◌, arith}
use Rattle.td_meaning.proofs.Scopes.{components_apart, components_ended}
use Rattle.td_meaning.proofs.scope.component.Goals as goal

pub loop-i-preserved : goal.loop-i-preserved
loop-i-preserved c =
    c.loop-i.invariant
    ∙ components_apart c.args.names.now c.args.values.now c.args.name.now c.loop-i.i c.index-names-i.result
    (omega arith) (omega arith) c.index-names-i.is (sym c.eq.ensures ∙ c.if-eq.false)

pub returns : goal.returns
returns c =
    let past : (length c.args.names.now ≤ c.loop-i.i) ⊎ (length c.args.values.now ≤ c.loop-i.i) = grind arith in
    sym (c.loop-i.invariant ∙ components_ended c.args.names.now c.args.values.now c.args.name.now c.loop-i.i past)
