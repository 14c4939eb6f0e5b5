use Rattle.std.proofs.Common.{List, refl, sym, subst}
use Rattle.td_headings.specs.Catalogues.{CatalogueData}
use Rattle.td_semantics.specs.Stored.{AreStored}
use Rattle.td_semantics.specs.Databases.{stored_relvars}
use Rattle.td_semantics.specs.Given.{replaced, with_given}
use Rattle.td_assign.specs.ForProofs.Lists.{given_to}
use Rattle.td_semantics.specs.Differences.{AreDifferences}
use Rattle.td_assign.specs.declared.changes.Change.{Change}
use Rattle.td_assign.proofs.Preparing.{none_fails, passed_before, refused_by, report_is}
use Rattle.td_assign.proofs.Replacing.{replaced_stored}
use Rattle.td_assign.proofs.running.judge_changes.Goals as goal

pub first_failure_after-requires-clause-stored : goal.first_failure_after-requires-clause-stored
first_failure_after-requires-clause-stored c =
    let d = c.args.database.now in
    let ys = c.deref-2.result.now in
    subst (λ (k : CatalogueData). AreStored k (replaced (given_to ys) (stored_relvars d.stored))) (sym c.catalogue-catalogue.ensures.same)
    (subst (λ (zs : List Change). AreStored d.catalogue (replaced (given_to zs) (stored_relvars d.stored))) (sym c.deref-2.ensures.value) (replaced_stored d.catalogue c.args.changes.items c.requires.changes d.stored c.catalogue-catalogue.ensures.database))

pub first_failure_after-requires-clause-before : goal.first_failure_after-requires-clause-before
first_failure_after-requires-clause-before c =
    let d = c.args.database.now in
    let cs = c.args.changes.items in
    let ds = c.in_ok-delta.delta.items in
    let old = stored_relvars d.stored in
    passed_before d cs c.deref-2.result.now c.catalogue-catalogue.result.now ds c.deref-3.result.now c.catalogue-catalogue.ensures.database c.requires.changes c.requires.legal c.catalogue-catalogue.ensures.same c.deref-2.ensures.value c.deref-3.ensures.value
    (subst (λ (zs : List Change). AreDifferences old (stored_relvars (with_given (given_to zs) d.stored)) ds) c.deref.ensures.value c.in_ok-delta.ensures)

pub returns-in-Some : goal.returns-in-Some
returns-in-Some c =
    let d = c.args.database.now in
    let cs = c.args.changes.items in
    let o = c.in_ok-failure.field-0 in
    refused_by d cs o c.in-Some.failure c.refusal.result c.in-Some.is (report_is d cs c.deref-2.result.now c.catalogue-catalogue.result.now o c.catalogue-catalogue.ensures.database c.requires.changes c.catalogue-catalogue.ensures.same c.deref-2.ensures.value c.in_ok-failure.ensures) c.refusal.ensures

pub returns-in-None : goal.returns-in-None
returns-in-None c =
    let d = c.args.database.now in
    let cs = c.args.changes.items in
    let o = c.in_ok-failure.field-0 in
    let old = stored_relvars d.stored in
    let ds = c.in_ok-delta.delta.items in (
      refl,
      record {
        given = c.requires.changes;
        passes = none_fails d cs o c.in-None.is (report_is d cs c.deref-2.result.now c.catalogue-catalogue.result.now o c.catalogue-catalogue.ensures.database c.requires.changes c.catalogue-catalogue.ensures.same c.deref-2.ensures.value c.in_ok-failure.ensures);
        differences = subst (λ (zs : List Change). AreDifferences old (stored_relvars (with_given (given_to zs) d.stored)) ds) c.deref.ensures.value c.in_ok-delta.ensures;
      },
    )
