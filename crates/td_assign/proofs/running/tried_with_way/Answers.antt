use Rattle.std.proofs.Common.{sym, ap, ◌∙◌, subst, Ok, None}
use Rattle.td_headings.specs.Catalogues.{CatalogueData}
use Rattle.td_semantics.specs.Databases.{DatabaseData, stored_relvars}
use Rattle.td_semantics.specs.Stored.{AreStored}
use Rattle.td_relvars.specs.Changed.{CanChange, with_change}
use Rattle.td_assign.specs.ForProofs.Turning.{IsTried}
use Rattle.td_assign.proofs.Turning.{came_from, can_first, first_passed, tried_goes, tried_stays}
use Rattle.td_assign.proofs.running.tried_with_way.Goals as goal

pub way_back-requires : goal.way_back-requires
way_back-requires c = can_first c.args.database.now c.args.changes.now c.relvars_fit.ensures c.requires.one c.index-changes-0.result c.index-changes-0.is

pub change-requires : goal.change-requires
change-requires c =
    let p = c.index-changes-0.result in
    subst (λ (d : DatabaseData). CanChange d p.0 p.1) (sym c.way_back.ensures.same) (can_first c.args.database.now c.args.changes.now c.relvars_fit.ensures c.requires.one p c.index-changes-0.is)

pub first_failure_after-requires-clause-stored : goal.first_failure_after-requires-clause-stored
first_failure_after-requires-clause-stored c =
    let e = c.change.new.self in
    subst (λ (k : CatalogueData). AreStored k (stored_relvars e.stored)) (sym c.catalogue.ensures.same) c.catalogue.ensures.database.stored

pub first_failure_after-requires-clause-before : goal.first_failure_after-requires-clause-before
first_failure_after-requires-clause-before c =
    let p = c.index-changes-0.result in
    let made = c.in_ok-change.ensures.ok ∙ ap (with_change p.0 p.1) c.way_back.ensures.same in
    first_passed c.args.database.now c.args.changes.now c.relvars_fit.ensures c.requires.one p c.index-changes-0.is
    c.change.new.self made c.catalogue.result.now c.catalogue.ensures.same c.requires.legal

pub restore-requires : goal.restore-requires
restore-requires c =
    let p = c.index-changes-0.result in
    let made = c.in_ok-change.ensures.ok ∙ ap (with_change p.0 p.1) c.way_back.ensures.same in (
      c.args.database.now,
      came_from c.args.database.now c.args.changes.now c.relvars_fit.ensures c.requires.one p c.index-changes-0.is c.change.new.self made c.in_ok-way.way c.in_ok-way.ensures.way,
    )

pub restore-requires-in-Err : goal.restore-requires-in-Err
restore-requires-in-Err c =
    let p = c.index-changes-0.result in
    let made = c.in_ok-change.ensures.ok ∙ ap (with_change p.0 p.1) c.way_back.ensures.same in (
      c.args.database.now,
      came_from c.args.database.now c.args.changes.now c.relvars_fit.ensures c.requires.one p c.index-changes-0.is c.change.new.self made c.in_ok-way.way c.in_ok-way.ensures.way,
    )

pub returns-in-Ok-None : goal.returns-in-Ok-None
returns-in-Ok-None c =
    let p = c.index-changes-0.result in
    let d = c.args.database.now in
    let made = c.in_ok-change.ensures.ok ∙ ap (with_change p.0 p.1) c.way_back.ensures.same in
    subst (λ (e : DatabaseData). IsTried {E = Unit {0}} d c.args.changes.now (Ok None) e) (sym c.keep_room.ensures)
    (tried_stays d c.args.changes.now c.relvars_fit.ensures c.requires.one p c.index-changes-0.is c.change.new.self made
    (Unit {0}) c.catalogue.result.now c.in-Ok-None.field-0 c.catalogue.ensures.same c.in-Ok-None.field-0-is c.in-Ok-None.ensures)

pub returns-in-Ok-Some : goal.returns-in-Ok-Some
returns-in-Ok-Some c =
    let p = c.index-changes-0.result in
    let d = c.args.database.now in
    let made = c.in_ok-change.ensures.ok ∙ ap (with_change p.0 p.1) c.way_back.ensures.same in
    tried_goes d c.args.changes.now c.relvars_fit.ensures c.requires.one p c.index-changes-0.is c.change.new.self made
    (Unit {0}) c.catalogue.result.now c.in-Ok-Some.field-0 c.in-Ok-Some.failure c.restore.new.database c.catalogue.ensures.same c.in-Ok-Some.field-0-is
    (c.restore.ensures d
    (came_from d c.args.changes.now c.relvars_fit.ensures c.requires.one p c.index-changes-0.is c.change.new.self made c.in_ok-way.way c.in_ok-way.ensures.way))
    c.in-Ok-Some.ensures

pub returns-in-Err : goal.returns-in-Err
returns-in-Err c =
    let p = c.index-changes-0.result in
    let d = c.args.database.now in
    let made = c.in_ok-change.ensures.ok ∙ ap (with_change p.0 p.1) c.way_back.ensures.same in
    c.restore-in-Err.ensures d
    (came_from d c.args.changes.now c.relvars_fit.ensures c.requires.one p c.index-changes-0.is c.change.new.self made c.in_ok-way.way c.in_ok-way.ensures.way)
