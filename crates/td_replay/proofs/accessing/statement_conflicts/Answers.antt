use Rattle.std.proofs.Common.{refl, sym, subst}
use Rattle.std.proofs.lemmas.Result.{IfOk-weaker}
use Rattle.td_assign.proofs.Naming.{targets_read}
use Rattle.td_headings.specs.Catalogues.{CatalogueData}
use Rattle.td_insertions.specs.Insertions.{IsInsertion}
use Rattle.td_semantics.specs.Databases.{stored_relvars}
use Rattle.td_semantics.specs.Stored.{AreStored}
use Rattle.td_replay.proofs.Recorded.{within_lists}
use Rattle.td_replay.proofs.accessing.statement_conflicts.Goals as goal

pub inserted_tuples-requires-clause-stored : goal.inserted_tuples-requires-clause-stored
inserted_tuples-requires-clause-stored c = subst (λ (z : CatalogueData). AreStored z (stored_relvars c.args.database.now.stored)) (sym c.catalogue-catalogue.ensures.same) c.relvars_fit.ensures.stored

pub returns-in-Some : goal.returns-in-Some
returns-in-Some c =
    let d = c.args.database.now.catalogue in
    let x = c.args.statement.now in
    let put = rw c.in-Some.is at c.in_ok-relvar.ensures in
    IfOk-weaker c.conflict.result _ _
    (λ r told none k l a b covers reads those.
    told none d c.requires.dependencies k l a b covers
    (within_lists d d l b c.args.footprint.now c.deref.result.now c.in_ok-assigned.assigned.items refl c.deref.ensures.value those (targets_read d l b x reads c.in_ok-assigned.assigned.items c.in_ok-assigned.ensures))
    (record { statement = x; reads = reads; is = subst (λ (q : CatalogueData). IsInsertion q x c.in-Some.relvar c.in-Some.tuples) c.catalogue-catalogue.ensures.same put }))
    c.conflict.ensures
