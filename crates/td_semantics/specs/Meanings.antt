-- What a typed expression means, given what the base relvars have and the tuple that it sees: a value, or the error
-- that it raises.
use Rattle.std.specs.Prelude.{◌==◌, if◌then◌else◌, List, None, Result}
use Rattle.std.specs.List.{fold}
use Rattle.td_values.specs.Data.{Datum, Attrs}
use Rattle.td_typed_trees.specs.declared.expression.Expression.{Expression}
use Rattle.td_typed_trees.specs.declared.expression.VirtualUnder.{VirtualUnder}
use Rattle.td_algebra.specs.declared.errors.Stop.{Stop}
use Rattle.td_meaning.specs.Mean.{Names, Relvars, Selection, mean, rows_in, within}
use Rattle.td_meaning.specs.Selections.{selection}

abbrev pub no_names : Names
no_names x = None

-- these relvars with a virtual one, which means its expression over them, with no tuple in scope; an error is kept
abbrev pub with_virtual : Selection → Relvars → VirtualUnder → Relvars
with_virtual selected relvars v n = if v.place == n then rows_in (mean relvars selected v.tree) no_names else relvars n

-- with several: in order of definition each sees those before it
abbrev pub with_virtuals : Selection → List VirtualUnder → Relvars → Relvars
with_virtuals selected vs relvars = fold (with_virtual selected) relvars vs

-- what each relvar under an expression has
abbrev pub relvars_under : Expression → Relvars → Relvars
relvars_under x relvars = with_virtuals (selection x.selectors) x.virtuals relvars

abbrev pub means : Expression → Relvars → Attrs → Result Datum Stop
means x relvars t = mean (relvars_under x relvars) (selection x.selectors) x.tree (within t no_names)
