-- The laws of definitions.
use Rattle.std.specs.Prelude.{◌≡◌, ◌↔◌, Some}
use Rattle.td_syntax.specs.declared.script.Definition.{Definition}
use Rattle.td_typed_trees.specs.declared.expression.Expression.{Expression}
use Rattle.td_headings.specs.Catalogues.{CatalogueData}
use Rattle.td_headings.specs.Definitions.{Defined, Defines}
use Rattle.td_headings.specs.Expressions.{HasAllUnder, reads}
use Rattle.td_headings.specs.Reached.{AreThose, ReadsRelvar}
use Rattle.td_headings.specs.ForProofs.WellTyped.{AllTyped}
use Rattle.td_headings.specs.ForProofs.After.{after}

-- what a definition makes of what is defined is what it defines, and nothing else
abbrev pub AfterDecides : Type 0
AfterDecides = (c d : CatalogueData) (x : Definition) → (after c x ≡ Some d) ↔ Defines c x d

-- the expressions that definitions leave are typed by all that is defined, each of its kind
abbrev pub DefinedIsTyped : Type 0
DefinedIsTyped = (c : CatalogueData) → Defined c → AllTyped c

-- what an expression reads is the base relvars that it names, virtual ones expanded, each once, in order of definition:
-- an expression of a text, a constraint and an opening value alike
abbrev pub ReadsAreReached : Type 0
ReadsAreReached = (c : CatalogueData) (x : Expression) → Defined c → HasAllUnder c x → AreThose (ReadsRelvar c.origins x.tree) (reads x)
