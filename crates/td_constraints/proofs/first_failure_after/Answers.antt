use Rattle.std.proofs.Common.{subst, sym}
use Rattle.td_headings.specs.Catalogues.{CatalogueData}
use Rattle.td_semantics.specs.Databases.{stored_relvars}
use Rattle.td_semantics.specs.Stored.{AreStored}
use Rattle.td_constraints.proofs.first_failure_after.Goals as goal

pub first_failure_after-requires-clause-stored : goal.first_failure_after-requires-clause-stored
first_failure_after-requires-clause-stored c =
    subst (λ (k : CatalogueData). AreStored k (stored_relvars c.args.database.now.stored)) (sym c.catalogue.ensures.same) c.catalogue.ensures.database.stored
