use Rattle.std.proofs.Common.{List, refl, sym, ◌∙◌, subst, arith, true≢false}
use Rattle.std.specs.List.{All}
use Rattle.std.proofs.lemmas.List.{take_all}
use Rattle.std.proofs.lemmas.List.Elements.{All-contains}
use Rattle.td_typed_trees.specs.declared.expression.BaseUnder.{BaseUnder}
use Rattle.td_assign.proofs.Naming.{IsNoTarget, no_more}
use Rattle.td_assign.proofs.names.meets.Goals as goal

pub returns-then-is_target : goal.returns-then-is_target
returns-then-is_target c =
    let b = c.base-item.result in
    (λ _. (b, (c.loop-base.base-index, c.loop-base-test.true, sym c.base-item.is), c.is_target.ensures.0 c.if-is_target.true), λ _. refl)

pub loop-base-preserved : goal.loop-base-preserved
loop-base-preserved c =
    no_more c.args.targets.now c.args.bases.now c.loop-base.base-index c.base-item.result c.loop-base-test.true c.base-item.is (λ there. true≢false (sym (c.is_target.ensures.1 there) ∙ c.if-is_target.false)) c.loop-base.invariant

pub returns : goal.returns
returns c =
    let bs = c.args.bases.now in
    let end = c.loop-base-test.false in
    let all = subst (λ (ds : List BaseUnder). All (IsNoTarget c.args.targets.now) ds) (take_all c.loop-base.base-index bs (omega (arith, end))) c.loop-base.invariant in
    (λ no. absurd (true≢false (sym no)), λ some. absurd ((All-contains (IsNoTarget c.args.targets.now) bs some.0 all some.1).off some.2))
