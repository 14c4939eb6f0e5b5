-- What is known of the relvars under an expression.
use Rattle.std.specs.Prelude.{◌≡◌, IfOk, List, Result, map}
use Rattle.std.specs.List.{Contains}
use Rattle.td_values.specs.Rows.{RowsData}
use Rattle.td_algebra.specs.Raising.{Answers}
use Rattle.td_algebra.specs.declared.errors.Fault.{Fault}
use Rattle.std.specs.declared.convert.Infallible.{Infallible}
use Rattle.td_algebra.specs.declared.errors.Stop.{Stop}
use Rattle.td_typed_trees.specs.declared.expression.BaseUnder.{BaseUnder}
use Rattle.td_typed_trees.specs.declared.expression.Expression.{Expression}
use Rattle.td_typed_trees.specs.declared.expression.VirtualUnder.{VirtualUnder}
use Rattle.td_meaning.specs.Mean.{Relvars, rows_in}
use Rattle.td_meaning.specs.Seen.{mean_in, relvars_there, virtuals_known}
use Rattle.td_meaning.specs.Selections.{selection}
use Rattle.td_meaning.specs.declared.environment.Environment.{Environment}
use Rattle.td_meaning.specs.declared.environment.Known.{Known}
use Rattle.td_semantics.specs.Meanings.{no_names}

-- what the base relvars have
abbrev pub base_known : Relvars → BaseUnder → Known
base_known relvars b = record { place = b.place; value = relvars b.place }

abbrev pub bases_known : Relvars → List BaseUnder → List Known
bases_known relvars bs = map (base_known relvars) bs

-- and behind them the virtual ones
abbrev pub all_known : Expression → Relvars → List Known
all_known x relvars = virtuals_known (selection x.selectors) x.virtuals (bases_known relvars x.bases)

-- each virtual relvar means its expression over them all, with no name in scope
abbrev pub MeanTheirs : Environment → Type 0
MeanTheirs env = (v : VirtualUnder) → Contains env.virtuals.now v → relvars_there env v.place ≡ rows_in (mean_in env v.tree) no_names

-- the answer that is kept, with the error that it may be
abbrev pub Keeps : {E : Type 0} → Result RowsData (Fault Infallible) → Result (Result RowsData Stop) E → Type 0
Keeps answer kept = IfOk kept (λ v. (m : Result RowsData Stop) → Answers answer m → v ≡ m)
