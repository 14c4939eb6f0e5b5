-- What a statement gives to its targets: the sources of one multiple assignment, in written order; the first error
-- stands.
use Rattle.std.specs.Prelude.{Bool, List, [], ◌∷◌, Result, Ok, if◌then◌else◌}
use Rattle.td_values.specs.Data.{no_attrs}
use Rattle.td_values.specs.Rows.{RowsData}
use Rattle.td_algebra.specs.declared.errors.Stop.{Stop}
use Rattle.td_algebra.specs.Raising.{and_then}
use Rattle.td_headings.specs.Catalogues.{CatalogueData}
use Rattle.td_headings.specs.declared.statement.TypedAssignment.{TypedAssignment}
use Rattle.td_headings.specs.declared.statement.TypedStatement.{TypedStatement}
use Rattle.td_headings.specs.declared.statement.TypedStatement.TheVariants as typed
use Rattle.td_meaning.specs.Mean.{Relvars}
use Rattle.td_operators.specs.Values.{rows_of, truth_of}
use Rattle.td_semantics.specs.Trees.{tree_means}
use Rattle.td_semantics.specs.Given.{Given, gives, nothing_given, seen}

-- the relation that the source has, where earlier assignments gave this
abbrev pub source_means : CatalogueData → Relvars → Given → TypedAssignment → Result RowsData Stop
source_means c relvars g a = and_then (tree_means c (seen g a.target relvars) a.source.tree no_attrs) rows_of

abbrev pub sources : CatalogueData → Relvars → Given → List TypedAssignment → Result Given Stop
sources c relvars g [] = Ok g
sources c relvars g (a ∷ as') = and_then (source_means c relvars g a) (λ r. sources c relvars (gives a.target r g) as')

-- where the condition is true the first assignments are made, and else the others
abbrev pub made_where : List TypedAssignment → List TypedAssignment → Bool → Result (List TypedAssignment) Stop
made_where xs ys b = Ok (if b then xs else ys)

-- The assignments that a statement makes: of a conditional one, its condition over these relvars decides. It is
-- evaluated before any source.
abbrev pub chosen_assignments : CatalogueData → Relvars → TypedStatement → Result (List TypedAssignment) Stop
chosen_assignments c relvars (typed.Assignment xs) = Ok xs
chosen_assignments c relvars (typed.Conditional u xs ys) = and_then (and_then (tree_means c relvars u.tree no_attrs) truth_of) (made_where xs ys)

-- what they give
abbrev pub given_over : CatalogueData → Relvars → TypedStatement → Result Given Stop
given_over c relvars x = and_then (chosen_assignments c relvars x) (sources c relvars nothing_given)
