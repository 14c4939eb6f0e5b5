use Rattle.std.proofs.Common.{sym, subst}
use Rattle.td_headings.specs.Definitions.{Defined, nothing_yet}
use Rattle.td_headings.specs.ForProofs.KeptConstraints.{AreKept}
use Rattle.td_headings.specs.ForProofs.RelvarsRead.{AreToldOf}
use Rattle.td_headings.proofs.KeptConstraints.{none_kept}
use Rattle.td_headings.proofs.RelvarsRead.{none_told_of}
use Rattle.td_headings.proofs.catalogue.Catalogue.new.Goals as goal

pub invariant_of-result : goal.invariant_of-result
invariant_of-result c = (subst Defined (sym c.new.ensures) nothing_yet, subst (AreKept c.new.result) (sym c.new-2.ensures.items) (none_kept _), subst (AreToldOf c.new.result) (sym c.new-3.ensures.items) (none_told_of c.new.result))
