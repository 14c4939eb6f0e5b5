use Rattle.std.proofs.Common.{refl, subst, arith}
use Rattle.std.specs.Prelude.{IfSome}
use Rattle.td_values.specs.Rows.{AreRows, RowsData}
use Rattle.td_relations.specs.Sets.{IsRelationOf}
use Rattle.td_algebra.specs.KeyIndexes.{IsKeyIndex, KeyIndexData}
use Rattle.td_algebra.specs.Operators.{NotMatching}
use Rattle.td_algebra.proofs.Walks.{at_item}
use Rattle.td_eval.specs.Keyed.{IsByKey}
use Rattle.td_integrity.proofs.Losing.{not_matched_by}
use Rattle.td_integrity.proofs.losses.without_match.Goals as goal

pub returns-in-Some : goal.returns-in-Some
returns-in-Some g c =
    let m = g.L.Lookup.relvars c.args.lookup.now c.args.relvar in
    let t = c.args.tuples.now in
    let x = c.index-item.result in
    let by = at_item (λ (y : KeyIndexData). IsByKey m y.key y) c.indexes-index-items.result.now c.loop-index.index-index x (omega arith) c.index-item.is c.indexes-index-items.ensures in
    not_matched_by m c.args.relation.now t c.requires c.rows_fit-2.ensures c.rows_fit.ensures x.key x by c.in-Some.rest refl
    (subst (λ o. IfSome o (λ n. (q : RowsData) → AreRows q.heading q.tuples → IsKeyIndex x.key q x → IsRelationOf t.heading (NotMatching t q) n)) c.in-Some.is c.in_ok-rest.ensures)
