-- What is told of a test that fails, and what holds where none does.
use Rattle.std.proofs.Common.{◌≡◌, IfOk, Option, None, Some, Result, Ok, Err, refl, sym, subst}
use Rattle.td_algebra.specs.declared.errors.Stop.{Stop}
use Rattle.td_headings.specs.Catalogues.{CatalogueData}
use Rattle.td_headings.specs.declared.defined.Test.{Test}
use Rattle.td_semantics.proofs.Legal.{all_pass}
use Rattle.td_semantics.specs.Databases.{DatabaseData, IsLegal, stored_relvars}
use Rattle.td_semantics.specs.Reports.{IsReport, title}
use Rattle.td_semantics.specs.declared.broken.TestFailure.{TestFailure}
use Rattle.td_semantics.specs.declared.error.ScriptError.{ScriptError}
use Rattle.td_relvars.specs.ForProofs.Opened.{Judges}

pub of_test : (c : CatalogueData) (o : Option (Test × Option Stop)) (f : TestFailure) → IsReport c o (Some f) → (t : Test) × (e : Option Stop) × (o ≡ Some (t, e)) × (f.test ≡ title c t)
of_test c None f h = cc
of_test c (Some p) f h = (p.0, p.1, refl, h.0)

pub legal : (d : DatabaseData) (r : Result DatabaseData ScriptError) → Judges d r → IfOk r IsLegal
legal d (Ok e) h = subst IsLegal (sym h.0) (all_pass d.catalogue (stored_relvars d.stored) d.catalogue.tests h.1)
legal d (Err x) h = tt
