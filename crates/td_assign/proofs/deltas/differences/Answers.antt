use Rattle.std.proofs.Common.{◌+◌, drop, ap, sym, subst, ◌∙◌, arith}
use Rattle.std.proofs.lemmas.List.{drop_all}
use Rattle.std.proofs.lemmas.List.Elements.{All-get_or}
use Rattle.td_semantics.specs.Databases.{stored_relvars}
use Rattle.td_semantics.specs.Differences.{AreDifferences}
use Rattle.td_assign.specs.ForProofs.Given.{IsChange}
use Rattle.td_assign.proofs.Differing.{Found, begun, by_none, by_option, ended, left_at}
use Rattle.td_assign.proofs.Replacing.{all_replaced}
use Rattle.td_assign.proofs.deltas.differences.Goals as goal
use Rattle.td_assign.proofs.deltas.differences.Goals.{in-Some+in_ok-push-in-Some, in-None}

pub difference-requires-clause-change : goal.difference-requires-clause-change
difference-requires-clause-change c =
    let k = c.args.database.now.catalogue in
    let x = c.change-item.result in
    subst (IsChange k) (sym c.change-item.is) (All-get_or (IsChange k) c.args.changes.now c.loop-change.change-index x (omega arith) c.requires.changes.each)

pub loop-change-init : goal.loop-change-init
loop-change-init c =
    let old = stored_relvars c.args.database.now.stored in
    let all = c.args.changes.now in
    subst (Found old all all) (sym c.new-found.ensures.items) (begun old all c.requires.changes.distinct)

pub loop-change-preserved : goal.loop-change-preserved
loop-change-preserved c =
    let old = stored_relvars c.args.database.now.stored in
    let all = c.args.changes.now in
    let i = c.loop-change.change-index in
    let x = c.change-item.result in
    let ds = c.loop-change.found.items in
    let rest = drop (i + 1) all in
    let before = subst (λ ys. Found old all ys ds) (left_at all i x (omega arith) c.change-item.is) c.loop-change.invariant in
    elim c.match-branch-2.branch [
      | in-Some+in_ok-push-in-Some w ↦ subst (Found old all rest) (sym (ap (λ v. v.items) w.found-is ∙ w.in_ok-push-in-Some.ensures.items)) (by_option old all rest x ds before c.in_ok-delta.field-0 w.in-Some.delta w.in-Some.is c.in_ok-delta.ensures)
      | in-None w ↦ subst (Found old all rest) (sym (ap (λ v. v.items) w.found-is)) (by_none old all rest x ds before c.in_ok-delta.field-0 w.in-None.is c.in_ok-delta.ensures)
    ]

pub returns : goal.returns
returns c =
    let d = c.args.database.now in
    let all = c.args.changes.now in
    let ds = c.loop-change.found.items in
    let old = stored_relvars d.stored in
    subst (λ r. AreDifferences old r ds) (all_replaced d.catalogue all c.requires.changes d.stored c.requires.database)
    (ended old all ds (subst (λ ys. Found old all ys ds) (drop_all c.loop-change.change-index all (omega arith)) c.loop-change.invariant))
