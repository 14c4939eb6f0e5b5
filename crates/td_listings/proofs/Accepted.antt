-- A script that was accepted makes its catalogue again, or memory is wanting.
use Rattle.std.proofs.Common.{◌≡◌, ℕ, List, None, Err, refl}
use Rattle.td_semantics.proofs.OneOpening.{opens_or_wants}
use Rattle.td_semantics.specs.Databases.{DatabaseData}
use Rattle.td_semantics.specs.Scripts.{IsCatalogue, OpensOn}
use Rattle.td_semantics.specs.declared.error.CatalogueError.{CatalogueError}
use Rattle.td_semantics.specs.declared.error.CatalogueError.TheVariants as catalogue_error
use Rattle.td_semantics.specs.declared.error.ScriptError.{ScriptError}
use Rattle.td_semantics.specs.declared.error.ScriptError.TheVariants as open_error

typed_again : {P : Type 0} → ◌≡◌ {A = ScriptError} open_error.IllTyped open_error.OutOfMemory → P
typed_again h = cc

pub made_or_wants : (text : List ℕ) (d : DatabaseData) (e : CatalogueError) → OpensOn text None d → IsCatalogue text (Err e) → e ≡ catalogue_error.OutOfMemory
made_or_wants text d catalogue_error.Syntax p h = absurd (h p.script.definitions p.script.reads)
made_or_wants text d catalogue_error.IllTyped p h = typed_again (opens_or_wants text d open_error.IllTyped p h)
made_or_wants text d catalogue_error.OutOfMemory p h = refl
