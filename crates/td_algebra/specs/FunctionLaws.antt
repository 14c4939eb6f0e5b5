-- The functions in which the evaluation of expressions is written: each gives the one relation that its operator
-- describes.
use Rattle.std.specs.Prelude.{ℕ, Bool, List, Result}
use Rattle.td_values.specs.Data.{Attrs}
use Rattle.td_values.specs.Rows.{RowsData, AreRows}
use Rattle.td_relations.specs.Sets.{IsRelationOf}
use Rattle.td_tuples.specs.Parts.{columns_in}
use Rattle.td_tuples.specs.Renamings.{renamed_columns}
use Rattle.td_tuples.specs.Unions.{joined, composed_columns}
use Rattle.td_tuples.specs.Items.{extended_columns}
use Rattle.td_tuples.specs.Nestings.{IsRelationValued, IsTupleValued, grouped_columns, wrapped_columns, opened_columns}
use Rattle.td_tuples.specs.declared.items.Item.{Item}
use Rattle.td_tuples.specs.declared.items.Summary.{Summary}
use Rattle.td_algebra.specs.declared.errors.Stop.{Stop}
use Rattle.td_algebra.specs.Closures.{IsBinary, Closed}
use Rattle.td_algebra.specs.Extending.{TermMeaning, Extended, RaisedBy}
use Rattle.td_algebra.specs.Functions.{union_of, intersect_of, minus_of, project_of, rename_of, join_of, matching_of, not_matching_of, compose_of, grouping_of, wrap_of, ungroup_of, unwrap_of, tclose_of, restricted, extended, summarized}
use Rattle.td_algebra.specs.Nested.{Grouped, Wrapped, Ungrouped, Unwrapped}
use Rattle.td_algebra.specs.Operators.{United, Common, Remaining, Projected, Renamed, Joined, Matching, NotMatching, Composed}
use Rattle.td_algebra.specs.Raising.{UnlessRaised}
use Rattle.td_algebra.specs.Restricting.{Restricted, RaisedIn}
use Rattle.td_algebra.specs.Summaries.{over_groups}

-- ---- sets

abbrev pub UnionOfIs : Type 0
UnionOfIs = (r s : RowsData) → IsRelationOf r.heading (United r s) (union_of r s)

abbrev pub IntersectOfIs : Type 0
IntersectOfIs = (r s : RowsData) → IsRelationOf r.heading (Common r s) (intersect_of r s)

abbrev pub MinusOfIs : Type 0
MinusOfIs = (r s : RowsData) → IsRelationOf r.heading (Remaining r s) (minus_of r s)

-- ---- parts

abbrev pub ProjectOfIs : Type 0
ProjectOfIs = (names : List (List ℕ)) (r : RowsData) → IsRelationOf (columns_in names r.heading) (Projected names r) (project_of names r)

abbrev pub RenameOfIs : Type 0
RenameOfIs = (items : List (List ℕ × List ℕ)) (r : RowsData) → IsRelationOf (renamed_columns items r.heading) (Renamed items r) (rename_of items r)

-- ---- joins

-- the tuples of both fit their headings
abbrev pub OfRows : (RowsData → RowsData → Type 0) → Type 0
OfRows P = (r s : RowsData) → AreRows r.heading r.tuples → AreRows s.heading s.tuples → P r s

abbrev pub JoinOfIs : Type 0
JoinOfIs = OfRows (λ r s. IsRelationOf (joined r.heading s.heading) (Joined r s) (join_of r s))

abbrev pub MatchingOfIs : Type 0
MatchingOfIs = OfRows (λ r s. IsRelationOf r.heading (Matching r s) (matching_of r s))

abbrev pub NotMatchingOfIs : Type 0
NotMatchingOfIs = OfRows (λ r s. IsRelationOf r.heading (NotMatching r s) (not_matching_of r s))

abbrev pub ComposeOfIs : Type 0
ComposeOfIs = OfRows (λ r s. IsRelationOf (composed_columns r.heading s.heading) (Composed r s) (compose_of r s))

-- ---- relations and tuples in attributes

abbrev pub GroupingOfIs : Type 0
GroupingOfIs = (names : List (List ℕ)) (c : List ℕ) (r : RowsData) → IsRelationOf (grouped_columns names c r.heading) (Grouped names c r) (grouping_of names c r)

abbrev pub WrapOfIs : Type 0
WrapOfIs = (names : List (List ℕ)) (c : List ℕ) (r : RowsData) → IsRelationOf (wrapped_columns names c r.heading) (Wrapped names c r) (wrap_of names c r)

abbrev pub UngroupOfIs : Type 0
UngroupOfIs = (c : List ℕ) (r : RowsData) → AreRows r.heading r.tuples → IsRelationValued c r.heading → IsRelationOf (opened_columns c r.heading) (Ungrouped c r) (ungroup_of c r)

abbrev pub UnwrapOfIs : Type 0
UnwrapOfIs = (c : List ℕ) (r : RowsData) → AreRows r.heading r.tuples → IsTupleValued c r.heading → IsRelationOf (opened_columns c r.heading) (Unwrapped c r) (unwrap_of c r)

-- ---- the transitive closure

abbrev pub TcloseOfIs : Type 0
TcloseOfIs = (r : RowsData) → IsBinary r.heading → AreRows r.heading r.tuples → IsRelationOf r.heading (Closed r) (tclose_of r)

-- ---- by functions of tuples

abbrev pub RestrictedIs : Type 0
RestrictedIs = (m : Attrs → Result Bool Stop) (r : RowsData) → UnlessRaised (RaisedIn m r) (IsRelationOf r.heading (Restricted m r)) (restricted m r)

-- for terms of any kind

abbrev pub ExtendedIs : Type 0 → Type 0
ExtendedIs E = (m : TermMeaning E) (items : List (Item E)) (r : RowsData)
    → UnlessRaised (RaisedBy m items r) (IsRelationOf (extended_columns items r.heading) (Extended m items r)) (extended m items r)

abbrev pub SummarizedIs : Type 0 → Type 0
SummarizedIs E = (m : TermMeaning E) (items : List (Item (Summary E))) (r per : RowsData)
    → UnlessRaised (RaisedBy (over_groups m r per.heading) items per) (IsRelationOf (extended_columns items per.heading) (Extended (over_groups m r per.heading) items per))
    (summarized m items r per)
