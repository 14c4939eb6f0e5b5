-- What an expression of the catalogue means, as an answer.
use Rattle.td_values.specs.Data.{Datum, no_attrs}
use Rattle.td_typed_trees.specs.declared.expression.Expression.{Expression}
use Rattle.td_headings.specs.Catalogues.{CatalogueData}
use Rattle.td_meaning.specs.Mean.{Relvars}
use Rattle.td_semantics.specs.Answers.{SaysValue}
use Rattle.td_semantics.specs.Trees.{tree_means}
use Rattle.td_semantics.specs.declared.answer.Answer.{Answer}

-- what the expression means over these relvars
abbrev pub EvaluatesTo : CatalogueData → Relvars → Expression → Answer Datum → Type 0
EvaluatesTo c relvars x r = SaysValue r (tree_means c relvars x.tree no_attrs)
