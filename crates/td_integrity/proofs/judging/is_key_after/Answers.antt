use Rattle.std.proofs.Common.{◌↔◌, IsTrue, ap, ◌∙◌, subst}
use Rattle.std.proofs.lemmas.Result.{IfOk-weaker}
use Rattle.td_values.specs.Rows.{RowsData}
use Rattle.td_algebra.specs.Keys.{TellApartFrom}
use Rattle.td_integrity.proofs.After.{heading_changed, key_changed, key_unchanged}
use Rattle.td_integrity.proofs.judging.is_key_after.Goals as goal

pub tells_apart-requires-clause-heading : goal.tells_apart-requires-clause-heading
tells_apart-requires-clause-heading g c =
    ap (λ (r : RowsData). r.heading) c.inserted.ensures
    ∙ heading_changed c.args.key.now c.args.changes.now c.args.relvar c.args.relation.now c.requires.before c.in-Some.delta.now c.in-Some.ensures

pub returns-in-Some : goal.returns-in-Some
returns-in-Some g c =
    let key = c.args.key.now in
    let r = c.args.relation.now in
    IfOk-weaker c.tells_apart.result _ _
    (λ b says. key_changed key c.args.changes.now c.args.relvar r c.requires.before c.in-Some.delta.now b c.in-Some.ensures (subst (λ i. IsTrue b ↔ TellApartFrom key i r) c.inserted.ensures says))
    c.tells_apart.ensures

pub returns-in-None : goal.returns-in-None
returns-in-None g c = key_unchanged c.args.key.now c.args.changes.now c.args.relvar c.args.relation.now c.requires.before c.in-None.ensures
