-- What the program's relvars, selectors and names in scope are seen as.
use Rattle.std.specs.Prelude.{◌==◌, Bool, true, false, if◌then◌else◌, List, [], ◌∷◌, ◌++◌, None, Err}
use Rattle.std.specs.List.{fold}
use Rattle.td_values.specs.Data.{Datum}
use Rattle.td_syntax.specs.declared.tree.Named.{Named}
use Rattle.td_typed_trees.specs.declared.expression.VirtualUnder.{VirtualUnder}
use Rattle.td_typed_trees.specs.declared.tree.Typed.{Typed}
use Rattle.td_algebra.specs.declared.errors.Stop.TheVariants.{Untyped}
use Rattle.td_algebra.specs.Nested.{relation_value}
use Rattle.td_meaning.specs.declared.environment.Environment.{Environment}
use Rattle.td_meaning.specs.declared.environment.Known.{Known}
use Rattle.td_meaning.specs.declared.scope.KnownValue.{KnownValue}
use Rattle.td_meaning.specs.declared.scope.KnownValue.TheVariants as held
use Rattle.td_meaning.specs.declared.scope.Bindings.{Bindings}
use Rattle.td_meaning.specs.declared.scope.Bindings.TheVariants.{Nothing, Within', Given', Components}
use Rattle.td_meaning.specs.Mean.{Names, Meaning, Relvars, Selection, within, given, mean, rows_in}
use Rattle.td_meaning.specs.Selections.{components, selection}

-- by their places
abbrev pub relvars_at : List Known → Relvars
relvars_at [] n = Err Untyped
relvars_at (k ∷ ks) n = if k.place == n then k.value else relvars_at ks n

-- a virtual relvar means its expression over those that are known, with no name in scope; an error is kept
abbrev pub virtual_known : Selection → List Known → VirtualUnder → Known
virtual_known selected ks v = record { place = v.place; value = rows_in (mean (relvars_at ks) selected v.tree) (λ x. None) }

-- with several: each sees those before it
abbrev pub one_known_more : Selection → List Known → VirtualUnder → List Known
one_known_more selected ks v = ks ++ virtual_known selected ks v ∷ []

abbrev pub virtuals_known : Selection → List VirtualUnder → List Known → List Known
virtuals_known selected vs ks = fold (one_known_more selected) ks vs

abbrev pub held_value : KnownValue → Datum
held_value (held.Rows r) = relation_value r
held_value (held.Other d) = d

-- a later name of WITH hides an earlier one
abbrev pub all_given : List (Named KnownValue) → Names → Names
all_given [] outer = outer
all_given (n ∷ ns) outer = all_given ns (given n.name (held_value n.value) outer)

abbrev pub names_bound : Bindings → Names
names_bound Nothing = λ x. None
names_bound (Within' t p outer) = within t.now (names_bound outer)
names_bound (Given' ns p outer) = all_given ns.now (names_bound outer)
names_bound (Components ns ds) = components ns.now ds.now

-- no relvar is virtual
abbrev pub none_virtual : List VirtualUnder → Bool
none_virtual [] = true
none_virtual (v ∷ vs) = false

-- what each relvar has there, a virtual one too
unfoldable pub relvars_there : Environment → Relvars
relvars_there env = relvars_at (virtuals_known (selection env.selectors.now) env.virtuals.now env.relvars.now)

-- what an expression means there
abbrev pub mean_in : Environment → Typed → Meaning
mean_in env = mean (relvars_there env) (selection env.selectors.now)
