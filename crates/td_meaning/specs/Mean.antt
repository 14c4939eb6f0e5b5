-- What a typed expression means: a value, or the error that it raises, given what the relvars have, what selectors
-- make, and what the names in scope stand for.
use Rattle.std.specs.Prelude.{ℕ, Bool, true, false, if◌then◌else◌, List, [], ◌∷◌, Option, None, Some, Result, Ok}
use Rattle.std.specs.Ordering.{eq_by_cmp}
use Rattle.td_values.specs.Attributes.{attribute_of}
use Rattle.td_values.specs.Data.{Datum, boolean, integer, char, tuple, Attrs}
use Rattle.td_values.specs.Headings.{Header}
use Rattle.td_values.specs.Order.{text_cmp}
use Rattle.td_values.specs.Rows.{RowsData}
use Rattle.td_tuples.specs.Unions.{tuple_of}
use Rattle.td_tuples.specs.declared.items.Item.{Item}
use Rattle.td_tuples.specs.declared.items.Summary.{Summary}
use Rattle.td_syntax.specs.declared.tree.BinaryOperator.{BinaryOperator}
use Rattle.td_syntax.specs.declared.tree.BinaryOperator.TheVariants as binary
use Rattle.td_syntax.specs.declared.tree.Named.{Named}
use Rattle.td_typed_trees.specs.declared.tree.Typed.{Typed}
use Rattle.td_typed_trees.specs.declared.tree.Typed.TheOpen.{Typed-F}
use Rattle.td_typed_trees.specs.declared.tree.Typed.TheFolds.{fold-Typed}
use Rattle.td_typed_trees.specs.declared.tree.TypedGroups.{TypedGroups}
use Rattle.td_typed_trees.specs.declared.tree.TypedGroups.TheVariants as groups
use Rattle.td_algebra.specs.declared.errors.Stop.{Stop}
use Rattle.td_algebra.specs.Functions.{project_of, restricted, extended, summarized}
use Rattle.td_algebra.specs.Raising.{and_then}
use Rattle.td_algebra.specs.Summaries.{summary_over}
use Rattle.td_operators.specs.Operators.{operate_on, component_at, attribute_at, part_at, with_new_names, nested, unnested, operate, in_turn, relation_over, table_dee, as_value}
use Rattle.td_operators.specs.Values.{truth_of, rows_of, known}

-- what each name in scope stands for
abbrev pub Names : Type 0
Names = List ℕ → Option Datum

-- what an expression means, given those
abbrev pub Meaning : Type 0
Meaning = Names → Result Datum Stop

-- what each relvar has, by its place; a virtual one may raise
abbrev pub Relvars : Type 0
Relvars = ℕ → Result RowsData Stop

-- what the selector of the possrep at a place makes of components
abbrev pub Selection : Type 0
Selection = ℕ → List Datum → Result Datum Stop

-- ---- names in scope
abbrev pub or_else : Option Datum → Option Datum → Option Datum
or_else (Some d) o = Some d
or_else None o = o

-- the attributes of a tuple hide the names outside
abbrev pub within : Attrs → Names → Names
within t outer x = or_else (attribute_of x t) (outer x)

abbrev pub are_equal_names : List ℕ → List ℕ → Bool
are_equal_names = eq_by_cmp text_cmp

-- a name of WITH hides an earlier one
abbrev pub given : List ℕ → Datum → Names → Names
given n d outer x = if are_equal_names n x then Some d else outer x

-- ---- the value as a truth value, as a relation, and at a tuple
unfoldable pub truth_in : Meaning → Names → Result Bool Stop
truth_in m names = and_then (m names) truth_of

unfoldable pub rows_in : Meaning → Names → Result RowsData Stop
rows_in m names = and_then (m names) rows_of

unfoldable pub truth_at : Meaning → Names → Attrs → Result Bool Stop
truth_at m names t = truth_in m (within t names)

unfoldable pub value_at : Names → Meaning → Attrs → Result Datum Stop
value_at names m t = m (within t names)

-- ---- operands
unfoldable pub mean_local : List ℕ → Meaning
mean_local x names = known (names x)

unfoldable pub mean_relvar : Relvars → ℕ → Meaning
mean_relvar relvars n names = and_then (relvars n) as_value

-- one operand
unfoldable pub mean_by : (Datum → Result Datum Stop) → Meaning → Meaning
mean_by f a names = and_then (a names) f

-- two operands, left to right: the first error stands
unfoldable pub mean_both : BinaryOperator → Meaning → Meaning → Meaning
mean_both o a b names = and_then (a names) (λ d. and_then (b names) (operate o d))

-- the second operand is evaluated only where the first does not decide
unfoldable pub mean_and : Meaning → Meaning → Meaning
mean_and a b names = and_then (truth_in a names) (λ t. if t then and_then (truth_in b names) (λ u. Ok (boolean u)) else Ok (boolean false))

unfoldable pub mean_or : Meaning → Meaning → Meaning
mean_or a b names = and_then (truth_in a names) (λ t. if t then Ok (boolean true) else and_then (truth_in b names) (λ u. Ok (boolean u)))

abbrev pub mean_binary : BinaryOperator → Meaning → Meaning → Meaning
mean_binary binary.And a b = mean_and a b
mean_binary binary.Or a b = mean_or a b
mean_binary o a b = mean_both o a b

-- one branch alone is evaluated
unfoldable pub mean_if : Meaning → Meaning → Meaning → Meaning
mean_if c a b names = and_then (truth_in c names) (λ t. if t then a names else b names)

-- ---- lists of operands, in written order: the first error stands
unfoldable pub at : Names → Meaning → Result Datum Stop
at names m = m names

unfoldable pub mean_select : Selection → ℕ → List Meaning → Meaning
mean_select selection n all names = and_then (in_turn (at names) all) (selection n)

unfoldable pub mean_relation : Header → List Meaning → Meaning
mean_relation h all names = and_then (in_turn (at names) all) (relation_over h)

unfoldable pub named_at : Names → Item Meaning → Result (List ℕ × Datum) Stop
named_at names i = and_then (i.term names) (λ d. Ok (i.name, d))

unfoldable pub mean_tuple : List (Item Meaning) → Meaning
mean_tuple items names = and_then (in_turn (named_at names) items) (λ fs. Ok (tuple (tuple_of fs)))

-- WITH: each expression is evaluated once and in order, and sees the names before it; then the body, which sees all
unfoldable pub introduced : List (Named Meaning) → Names → Result Names Stop
introduced [] names = Ok names
introduced (x ∷ xs) names = and_then (x.value names) (λ d. introduced xs (given x.name d names))

unfoldable pub mean_with : List (Named Meaning) → Meaning → Meaning
mean_with xs body names = and_then (introduced xs names) body

-- ---- over tuples: first the relations, then the terms at each tuple, of which the least error stands
unfoldable pub mean_where : Meaning → Meaning → Meaning
mean_where r c names = and_then (rows_in r names) (λ ts. and_then (restricted (truth_at c names) ts) as_value)

unfoldable pub mean_aggregate : Meaning → Summary Meaning → Meaning
mean_aggregate r s names = and_then (rows_in r names) (λ ts. summary_over (value_at names) ts.tuples s)

unfoldable pub mean_extend : Meaning → List (Item Meaning) → Meaning
mean_extend r items names = and_then (rows_in r names) (λ ts. and_then (extended (value_at names) items ts) as_value)

-- the tuples that the groups of a relation are of: without PER and BY the one without attributes
unfoldable pub groups_at : TypedGroups Meaning → Names → RowsData → Result RowsData Stop
groups_at groups.Whole names ts = Ok table_dee
groups_at (groups.Per m) names ts = rows_in m names
groups_at (groups.By xs) names ts = Ok (project_of xs ts)

unfoldable pub mean_summarize : Meaning → TypedGroups Meaning → List (Item (Summary Meaning)) → Meaning
mean_summarize r g items names = and_then (rows_in r names) (λ ts. and_then (groups_at g names ts) (λ us. and_then (summarized (value_at names) items ts us) as_value))

-- ---- the forms
abbrev pub mean_step : Relvars → Selection → Typed-F Meaning → Meaning
mean_step relvars selection (Typed-F.Integer n) names = Ok (integer n)
mean_step relvars selection (Typed-F.Text s) names = Ok (char s)
mean_step relvars selection (Typed-F.Truth b) names = Ok (boolean b)
mean_step relvars selection (Typed-F.Local x) names = mean_local x names
mean_step relvars selection (Typed-F.Relvar n) names = mean_relvar relvars n names
mean_step relvars selection (Typed-F.Select n all) names = mean_select selection n all names
mean_step relvars selection (Typed-F.Component i a) names = mean_by (component_at i) a names
mean_step relvars selection (Typed-F.Tuple items) names = mean_tuple items names
mean_step relvars selection (Typed-F.Relation h all) names = mean_relation h all names
mean_step relvars selection (Typed-F.Unary o a) names = mean_by (operate_on o) a names
mean_step relvars selection (Typed-F.Binary o a b) names = mean_binary o a b names
mean_step relvars selection (Typed-F.From x a) names = mean_by (attribute_at x) a names
mean_step relvars selection (Typed-F.Project a xs) names = mean_by (part_at xs) a names
mean_step relvars selection (Typed-F.Where r c) names = mean_where r c names
mean_step relvars selection (Typed-F.Rename a items) names = mean_by (with_new_names items) a names
mean_step relvars selection (Typed-F.Nest o a xs c) names = mean_by (nested o xs c) a names
mean_step relvars selection (Typed-F.Unnest o a c) names = mean_by (unnested o c) a names
mean_step relvars selection (Typed-F.Aggregate r s) names = mean_aggregate r s names
mean_step relvars selection (Typed-F.If c a b) names = mean_if c a b names
mean_step relvars selection (Typed-F.Extend r items) names = mean_extend r items names
mean_step relvars selection (Typed-F.Summarize r g items) names = mean_summarize r g items names
mean_step relvars selection (Typed-F.With xs body) names = mean_with xs body names

abbrev pub mean : Relvars → Selection → Typed → Meaning
mean relvars selection = fold-Typed Meaning (mean_step relvars selection)
