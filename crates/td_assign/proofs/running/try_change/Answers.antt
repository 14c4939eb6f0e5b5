use Rattle.std.proofs.Common.{sym, subst}
use Rattle.td_headings.specs.Catalogues.{CatalogueData}
use Rattle.td_semantics.specs.Databases.{stored_relvars}
use Rattle.td_semantics.specs.Stored.{AreStored}
use Rattle.td_assign.proofs.Turning.{can_first, first_back, first_passed, is_back, one_change, taken_nothing, tried_goes, tried_stays}
use Rattle.td_assign.proofs.running.try_change.Goals as goal

pub change-requires : goal.change-requires
change-requires c = can_first c.args.database.now c.args.changes.now c.relvars_fit.ensures c.requires.one c.index-changes-0.result c.index-changes-0.is

pub first_failure_after-requires-clause-stored : goal.first_failure_after-requires-clause-stored
first_failure_after-requires-clause-stored c =
    let e = c.change.new.self in
    subst (λ (k : CatalogueData). AreStored k (stored_relvars e.stored)) (sym c.catalogue.ensures.same) c.catalogue.ensures.database.stored

pub first_failure_after-requires-clause-before : goal.first_failure_after-requires-clause-before
first_failure_after-requires-clause-before c =
    first_passed c.args.database.now c.args.changes.now c.relvars_fit.ensures c.requires.one c.index-changes-0.result c.index-changes-0.is
    c.change.new.self c.in_ok-change.ensures.ok c.catalogue.result.now c.catalogue.ensures.same c.requires.legal

pub take_back-requires-clause-change : goal.take_back-requires-clause-change
take_back-requires-clause-change c =
    first_back c.args.database.now c.args.changes.now c.relvars_fit.ensures c.requires.one c.index-changes-0.result c.index-changes-0.is c.change.new.self c.in_ok-change.ensures.ok

pub take_back-requires-clause-growth : goal.take_back-requires-clause-growth
take_back-requires-clause-growth c = taken_nothing c.args.changes.now c.requires.growth (one_change c.args.database.now c.args.changes.now c.requires.one) c.index-changes-0.result c.index-changes-0.is

pub take_back-requires-in-Err-clause-change : goal.take_back-requires-in-Err-clause-change
take_back-requires-in-Err-clause-change c =
    first_back c.args.database.now c.args.changes.now c.relvars_fit.ensures c.requires.one c.index-changes-0.result c.index-changes-0.is c.change.new.self c.in_ok-change.ensures.ok

pub take_back-requires-in-Err-clause-growth : goal.take_back-requires-in-Err-clause-growth
take_back-requires-in-Err-clause-growth c = taken_nothing c.args.changes.now c.requires.growth (one_change c.args.database.now c.args.changes.now c.requires.one) c.index-changes-0.result c.index-changes-0.is

pub returns-in-Ok-None : goal.returns-in-Ok-None
returns-in-Ok-None c =
    tried_stays c.args.database.now c.args.changes.now c.relvars_fit.ensures c.requires.one c.index-changes-0.result c.index-changes-0.is c.change.new.self c.in_ok-change.ensures.ok
    (Unit {0}) c.catalogue.result.now c.in-Ok-None.field-0 c.catalogue.ensures.same c.in-Ok-None.field-0-is c.in-Ok-None.ensures

pub returns-in-Ok-Some : goal.returns-in-Ok-Some
returns-in-Ok-Some c =
    tried_goes c.args.database.now c.args.changes.now c.relvars_fit.ensures c.requires.one c.index-changes-0.result c.index-changes-0.is c.change.new.self c.in_ok-change.ensures.ok
    (Unit {0}) c.catalogue.result.now c.in-Ok-Some.field-0 c.in-Ok-Some.failure c.take_back.new.self c.catalogue.ensures.same c.in-Ok-Some.field-0-is
    (is_back c.args.database.now c.args.changes.now c.relvars_fit.ensures c.requires.one c.index-changes-0.result c.index-changes-0.is c.change.new.self c.in_ok-change.ensures.ok c.take_back.new.self c.take_back.ensures)
    c.in-Ok-Some.ensures

pub returns-in-Err : goal.returns-in-Err
returns-in-Err c =
    is_back c.args.database.now c.args.changes.now c.relvars_fit.ensures c.requires.one c.index-changes-0.result c.index-changes-0.is c.change.new.self c.in_ok-change.ensures.ok c.take_back-in-Err.new.self c.take_back-in-Err.ensures
