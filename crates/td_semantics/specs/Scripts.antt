-- What a script opens: the first refusal, or a database whose tests are all true.
use Rattle.std.specs.Prelude.{◌≡◌, ℕ, List, [], ◌∷◌, Option, None, Some, Result, Ok, Err}
use Rattle.td_syntax.specs.declared.script.Definition.{Definition}
use Rattle.td_grammar.specs.Statements.{IsScript}
use Rattle.td_headings.specs.Catalogues.{CatalogueData, nothing_defined}
use Rattle.td_headings.specs.Definitions.{Defines}
use Rattle.td_headings.specs.declared.defined.Test.{Test}
use Rattle.td_algebra.specs.declared.errors.Stop.{Stop}
use Rattle.td_semantics.specs.Raises.{stop_of}
use Rattle.td_semantics.specs.Reports.{title}
use Rattle.td_semantics.specs.Tests.{failing}
use Rattle.td_semantics.specs.Databases.{DatabaseData, stored_relvars}
use Rattle.td_semantics.specs.Openings.{opening}
use Rattle.td_semantics.specs.declared.error.CatalogueError.{CatalogueError}
use Rattle.td_semantics.specs.declared.error.CatalogueError.TheVariants as catalogue_error
use Rattle.td_semantics.specs.declared.error.ScriptError.{ScriptError}
use Rattle.td_semantics.specs.declared.error.ScriptError.TheVariants.{Syntax, IllTyped, OpeningRaised, OpeningBroken, OutOfMemory}

-- definitions one after the other
pub data DefinesAll : CatalogueData → List Definition → CatalogueData → Type 0 where
  all_defined : {c : CatalogueData} → DefinesAll c [] c
  next_defined : {c d e : CatalogueData} {x : Definition} {xs : List Definition} → Defines c x d → DefinesAll d xs e → DefinesAll c (x ∷ xs) e

-- the text is a script, whose definitions make the catalogue
pub record IsScriptOf (text : List ℕ) (c : CatalogueData) : Type 0 where
  pub definitions : List Definition
  pub reads : IsScript text definitions
  pub defines : DefinesAll nothing_defined definitions c

-- the text is a script whose definitions are ill typed
pub record IsIllTypedScript (text : List ℕ) : Type 0 where
  pub definitions : List Definition
  pub reads : IsScript text definitions
  pub refused : (c : CatalogueData) → DefinesAll nothing_defined definitions c → ⊥

-- its catalogue, or why there is none; want of memory tells nothing
abbrev pub IsCatalogue : List ℕ → Result CatalogueData CatalogueError → Type 0
IsCatalogue text (Ok c) = IsScriptOf text c
IsCatalogue text (Err catalogue_error.Syntax) = (ds : List Definition) → ¬ IsScript text ds
IsCatalogue text (Err catalogue_error.IllTyped) = IsIllTypedScript text
IsCatalogue text (Err catalogue_error.OutOfMemory) = Unit {0}

-- the script opens these relvars, over which this test is the first that fails, or none does
pub record OpensOn (text : List ℕ) (failure : Option (Test × Option Stop)) (d : DatabaseData) : Type 0 where
  pub script : IsScriptOf text d.catalogue
  pub opens : opening d.catalogue ≡ Ok d.stored
  pub first : failing d.catalogue (stored_relvars d.stored) d.catalogue.tests ≡ failure

-- a database, or the first refusal; want of memory tells nothing
abbrev pub Opens : List ℕ → Result DatabaseData ScriptError → Type 0
Opens text (Ok d) = OpensOn text None d
Opens text (Err Syntax) = (ds : List Definition) → ¬ IsScript text ds
Opens text (Err IllTyped) = IsIllTypedScript text
Opens text (Err (OpeningRaised e)) = (c : CatalogueData) × IsScriptOf text c × (opening c ≡ Err (stop_of e))
Opens text (Err (OpeningBroken b)) = (d : DatabaseData) × (t : Test) × (o : Option Stop) × OpensOn text (Some (t, o)) d × (b ≡ title d.catalogue t)
Opens text (Err OutOfMemory) = Unit {0}
