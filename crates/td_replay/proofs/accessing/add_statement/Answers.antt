use Rattle.std.proofs.Common.{sym, subst}
use Rattle.td_assign.proofs.Naming.{targets_read}
use Rattle.td_headings.specs.Catalogues.{CatalogueData}
use Rattle.td_semantics.specs.Databases.{stored_relvars}
use Rattle.td_semantics.specs.Steps.{IsRead}
use Rattle.td_semantics.specs.Stored.{AreStored}
use Rattle.td_replay.proofs.Recorded.{covered_over, kept_over, within_lists}
use Rattle.td_replay.proofs.Depending.{over_same}
use Rattle.td_replay.proofs.accessing.add_statement.Goals as goal

pub add-requires : goal.add-requires
add-requires c = over_same c.catalogue-catalogue.result.now c.args.database.now.catalogue c.args.dependencies.now.relvars.items c.catalogue-catalogue.ensures.same c.requires.dependencies

pub add-requires-in-None : goal.add-requires-in-None
add-requires-in-None c = over_same c.catalogue-catalogue.result.now c.args.database.now.catalogue c.args.dependencies.now.relvars.items c.catalogue-catalogue.ensures.same c.requires.dependencies

pub inserted_tuples-requires-clause-stored : goal.inserted_tuples-requires-clause-stored
inserted_tuples-requires-clause-stored c = subst (λ (z : CatalogueData). AreStored z (stored_relvars c.args.database.now.stored)) (sym c.catalogue-catalogue.ensures.same) c.relvars_fit.ensures.stored

pub returns-in-Some-clause-covered : goal.returns-in-Some-clause-covered
returns-in-Some-clause-covered c = λ k a reads those.
    let d = c.args.database.now.catalogue in
    let z = c.catalogue-catalogue.result.now in
    let same = c.catalogue-catalogue.ensures.same in
    let x = c.args.statement.now in
    let put = rw c.in-Some.is at c.in_ok-relvar.ensures in
    covered_over z d c.add.result c.add.new.self k a same
    (c.add.ensures.covered k a (within_lists z d k a c.args.footprint.now c.deref.result.now c.in_ok-writes.writes.items same c.deref.ensures.value those (targets_read d k a x reads c.in_ok-writes.writes.items c.in_ok-writes.ensures))
    (record { statement = x; reads = subst (λ (q : CatalogueData). IsRead q k a x) (sym same) reads; is = put }))

pub returns-in-Some-clause-kept : goal.returns-in-Some-clause-kept
returns-in-Some-clause-kept c = kept_over c.catalogue-catalogue.result.now c.args.database.now.catalogue c.add.result c.args.accesses.now c.add.new.self c.catalogue-catalogue.ensures.same c.add.ensures.kept

pub returns-clause-covered : goal.returns-clause-covered
returns-clause-covered c = λ k a reads those.
    let d = c.args.database.now.catalogue in
    let z = c.catalogue-catalogue.result.now in
    let same = c.catalogue-catalogue.ensures.same in
    covered_over z d c.add-in-None.result c.add-in-None.new.self k a same
    (c.add-in-None.ensures.covered k a (within_lists z d k a c.args.footprint.now c.deref-in-None.result.now c.in_ok-writes.writes.items same c.deref-in-None.ensures.value those (targets_read d k a c.args.statement.now reads c.in_ok-writes.writes.items c.in_ok-writes.ensures)) tt)

pub returns-clause-kept : goal.returns-clause-kept
returns-clause-kept c = kept_over c.catalogue-catalogue.result.now c.args.database.now.catalogue c.add-in-None.result c.args.accesses.now c.add-in-None.new.self c.catalogue-catalogue.ensures.same c.add-in-None.ensures.kept
