use Rattle.std.proofs.Common.{sym, subst}
use Rattle.td_headings.specs.Catalogues.{CatalogueData}
use Rattle.td_semantics.specs.Databases.{stored_relvars}
use Rattle.td_semantics.specs.Trees.{AreBases}
use Rattle.td_relvars.specs.Parts.{with_copies}
use Rattle.td_relvars.proofs.PartLemmas.{bases_over}
use Rattle.td_relvars.proofs.evaluation.value_over.Goals as goal

pub evaluated-requires-clause-bases : goal.evaluated-requires-clause-bases
evaluated-requires-clause-bases c =
    let d = c.args.database.now in
    let ps = c.args.part.now.copies in
    subst (λ (k : CatalogueData). AreBases k (with_copies ps (stored_relvars d.stored))) (sym c.catalogue.ensures.same) (bases_over d c.catalogue.ensures.database ps c.requires.part)
