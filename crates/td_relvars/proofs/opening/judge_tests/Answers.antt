use Rattle.std.proofs.Common.{subst, sym}
use Rattle.td_headings.specs.Catalogues.{CatalogueData}
use Rattle.td_semantics.specs.Reports.{IsReport}
use Rattle.td_semantics.specs.Stored.{AreStored}
use Rattle.td_semantics.specs.Tests.{failing}
use Rattle.td_semantics.specs.Databases.{stored_relvars}
use Rattle.td_relvars.specs.ForProofs.Opened.{first_in}
use Rattle.td_relvars.proofs.Told.{of_test}
use Rattle.td_relvars.proofs.opening.judge_tests.Goals as goal

pub first_failure-requires : goal.first_failure-requires
first_failure-requires c = subst (λ (k : CatalogueData). AreStored k (stored_relvars c.args.database.stored)) (sym c.catalogue.ensures.same) c.catalogue.ensures.database.stored

pub returns-in-Ok-Some : goal.returns-in-Ok-Some
returns-in-Ok-Some c =
    let d = c.args.database in
    let told = subst (λ (k : CatalogueData). IsReport k (failing k (stored_relvars d.stored) k.tests) c.in-Ok-Some.field-0) c.catalogue.ensures.same c.in-Ok-Some.ensures in
    of_test d.catalogue (first_in d) c.in-Ok-Some.failure (subst (IsReport d.catalogue (first_in d)) c.in-Ok-Some.field-0-is told)
