-- Conditions that say which values attributes have.
use Rattle.std.specs.Prelude.{◌≡◌, ℕ, Bool, true, false, is_some, List, ◌++◌, Option, None, Some, Result, Ok, Err}
use Rattle.std.specs.FinMap as by_name
use Rattle.std.specs.List.{Contains, list_all}
use Rattle.td_values.specs.Attributes.{attribute_of}
use Rattle.td_values.specs.Data.{Datum, Attrs}
use Rattle.td_values.specs.Headings.{Header}
use Rattle.td_values.specs.Rows.{RowsData}
use Rattle.td_relations.specs.Sets.{Has}
use Rattle.td_typed_trees.specs.declared.expression.Expression.{Expression}
use Rattle.td_typed_trees.specs.declared.tree.Typed.{Typed}
use Rattle.td_typed_trees.specs.declared.tree.Typed.TheVariants as typed
use Rattle.td_algebra.specs.declared.errors.Fault.{Fault}
use Rattle.td_algebra.specs.declared.errors.Fault.TheVariants.{Raised, OutOfMemory, Wanting}
use Rattle.td_algebra.specs.declared.errors.Stop.{Stop}
use Rattle.td_algebra.specs.KeyIndexes.{has_named}
use Rattle.td_algebra.specs.Nested.{relation_value}
use Rattle.td_headings.specs.Expressions.{places_of}
use Rattle.td_operators.specs.Operators.{are_equal}
use Rattle.td_meaning.specs.Mean.{Names, Relvars, Selection, mean, mean_relvar, mean_where, truth_in, within}
use Rattle.td_meaning.specs.Seen.{relvars_at}
use Rattle.td_meaning.specs.Selections.{selection}
use Rattle.td_eval.specs.ForProofs.Environments.{all_known}

-- a name with a value
abbrev pub Field : Type 0
Field = List ℕ × Datum

-- the value is this one; where there is none, it is not
abbrev pub is_value : Option Datum → Datum → Bool
is_value None d = false
is_value (Some e) d = are_equal e d

-- t has the value at the name
abbrev pub has_value : Field → Attrs → Bool
has_value f t = is_value (attribute_of f.0 t) f.1

abbrev pub all_values : List Field → Attrs → Bool
all_values fs t = list_all (λ f. has_value f t) fs

-- t has all these names
abbrev pub all_attributes : List Field → Attrs → Bool
all_attributes fs t = list_all (λ f. is_some (attribute_of f.0 t)) fs

-- they are names of columns
abbrev pub all_columns : List Field → Header → Bool
all_columns fs h = list_all (λ f. is_some (by_name.get h f.0)) fs

-- whatever the relvars have, the expression has this value
abbrev pub IsLiteral : Typed → Datum → Type 0
IsLiteral a d = (r : Relvars) (s : Selection) (names : Names) → mean r s a names ≡ Ok d

-- of tuples with these names the condition says whether they have these values
abbrev pub IsConjunction : Typed → List Field → Type 0
IsConjunction c fs = (r : Relvars) (s : Selection) (names : Names) (t : Attrs) → all_attributes fs t ≡ true → truth_in (mean r s c) (within t names) ≡ Ok (all_values fs t)

-- the new ones are the old ones, and behind them those of the condition
abbrev pub AddsEqualities : Typed → List Field → List Field → Type 0
AddsEqualities c old new = (fs : List Field) × (new ≡ old ++ fs) × IsConjunction c fs

-- tuples with these values have u's values of the key
abbrev pub GivesKey : List (List ℕ) → List Field → Attrs → Type 0
GivesKey key fs u = (t : Attrs) → all_values fs t ≡ true → has_named key u t ≡ true

-- of the tuples of r the condition says whether they have these values
abbrev pub SaysValues : List Field → RowsData → (Attrs → Result Bool Stop) → Type 0
SaysValues fs r m = (t : Attrs) → Has r t → m t ≡ Ok (all_values fs t)

-- an answer, if there is one, that says the meaning, a value or an error
abbrev pub SaysIfAny : {A B W : Type 0} → (A → B) → Result (Option A) (Fault W) → Result B Stop → Type 0
SaysIfAny see (Ok None) m = Unit {0}
SaysIfAny see (Ok (Some a)) m = m ≡ Ok (see a)
SaysIfAny see (Err (Raised e)) m = m ≡ Err e
SaysIfAny see (Err OutOfMemory) m = Unit {0}
SaysIfAny see (Err (Wanting w)) m = Unit {0}

-- the expression is WHERE of the base relvar at the place
abbrev pub IsRestriction : Expression → ℕ → Typed → Type 0
IsRestriction x place c = (x.tree ≡ typed.Where (typed.Relvar place) c) × Contains (places_of x.bases) place

-- the answer, if there is one, says what WHERE of the relvar at the place means, if that relvar has this
abbrev pub SaysWhere : {W : Type 0} → ℕ → Result RowsData Stop → Typed → Result (Option RowsData) (Fault W) → Type 0
SaysWhere place m c answer = (r : Relvars) (s : Selection) (names : Names) → r place ≡ m → SaysIfAny relation_value answer (mean_where (mean_relvar r place) (mean r s c) names)

-- it says what the expression means, if the base relvars have this
abbrev pub SaysMeaning : {W : Type 0} → Expression → Relvars → Result (Option Datum) (Fault W) → Type 0
SaysMeaning x r answer = (names : Names) → SaysIfAny (λ d. d) answer (mean (relvars_at (all_known x r)) (selection x.selectors) x.tree names)
