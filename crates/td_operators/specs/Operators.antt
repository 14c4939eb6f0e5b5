-- What operators make of the values of their operands, and which errors they raise.
use Rattle.std.specs.Prelude.{ℕ, ℤ, pos, ◌+ℤ◌, ◌-ℤ◌, ◌*ℤ◌, neg_ℤ, int_lt, int_le, int_div, Bool, true, false, not, ◌&&◌, ◌||◌, ◌==◌, if◌then◌else◌, List, [], ◌∷◌, ◌++◌, length, slice_get, Option, Some, Result, Ok, Err}
use Rattle.std.specs.FinMap as by_name
use Rattle.std.specs.FinSet as set
use Rattle.std.specs.Ordering.{int_eq, is_eq, is_le, is_lt}
use Rattle.td_values.specs.Attributes.{attribute_of}
use Rattle.td_values.specs.Data.{Ty, tuple_type, relation_type, Datum, boolean, integer, char, tuple, Attrs, no_attrs}
use Rattle.td_values.specs.Headings.{Header, header_fields}
use Rattle.td_values.specs.Order.{order, fields_order, text_cmp, ty_order}
use Rattle.td_values.specs.Rows.{RowsData}
use Rattle.td_values.specs.Whole.{heading_of}
use Rattle.td_relations.specs.Sets.{body}
use Rattle.td_tuples.specs.Parts.{cut}
use Rattle.td_syntax.specs.declared.tree.BinaryOperator.{BinaryOperator}
use Rattle.td_syntax.specs.declared.tree.BinaryOperator.TheVariants as binary
use Rattle.td_syntax.specs.declared.tree.Nesting.{Nesting}
use Rattle.td_syntax.specs.declared.tree.Nesting.TheVariants as nesting
use Rattle.td_syntax.specs.declared.tree.UnaryOperator.{UnaryOperator}
use Rattle.td_syntax.specs.declared.tree.UnaryOperator.TheVariants as unary
use Rattle.td_algebra.specs.declared.errors.Stop.{Stop}
use Rattle.td_values.specs.declared.raises.Raise.TheVariants.{Overflow, Divide, Cardinality}
use Rattle.td_algebra.specs.declared.errors.Stop.TheVariants.{Untyped, Error}
use Rattle.td_algebra.specs.Functions.{union_of, intersect_of, minus_of, project_of, rename_of, join_of, matching_of, not_matching_of, compose_of, grouping_of, wrap_of, ungroup_of, unwrap_of, tclose_of, relation_from}
use Rattle.td_algebra.specs.Nested.{relation_value}
use Rattle.td_algebra.specs.Raising.{and_then}
use Rattle.td_algebra.specs.Summaries.{in_64_bits}
use Rattle.td_operators.specs.Values.{truth_of, integer_of, text_of, tuple_in, rows_of, components_of, known, both}

abbrev pub as_value : RowsData → Result Datum Stop
as_value r = Ok (relation_value r)

-- ---- one operand

-- an integer, if it is within 64 bits
abbrev pub within_64_bits : ℤ → Result Datum Stop
within_64_bits n = if in_64_bits n then Ok (integer n) else Err (Error Overflow)

-- the tuple of a relation that has one
abbrev pub only_tuple : List Attrs → Result Datum Stop
only_tuple (t ∷ []) = Ok (tuple t)
only_tuple ts = Err (Error Cardinality)

-- two attributes of one type
abbrev pub is_pair : List (List ℕ × Ty) → Bool
is_pair (f ∷ g ∷ []) = is_eq (ty_order f.1 g.1)
is_pair fs = false

abbrev pub closed : RowsData → Result Datum Stop
closed r = if is_pair (by_name.entries r.heading) then as_value (tclose_of r) else Err Untyped

abbrev pub operate_on : UnaryOperator → Datum → Result Datum Stop
operate_on unary.Not d = and_then (truth_of d) (λ b. Ok (boolean (not b)))
operate_on unary.Negate d = and_then (integer_of d) (λ n. within_64_bits (neg_ℤ n))
operate_on unary.Closure d = and_then (rows_of d) closed
operate_on unary.TupleFrom d = and_then (rows_of d) (λ r. only_tuple r.tuples)
operate_on unary.IsEmpty d = and_then (rows_of d) (λ r. Ok (boolean (length r.tuples == 0)))
operate_on unary.Count d = and_then (rows_of d) (λ r. Ok (integer (pos (length r.tuples))))

-- the component at a place, from 0
abbrev pub component_at : ℕ → Datum → Result Datum Stop
component_at i d = and_then (components_of d) (λ ds. known (slice_get ds i))

-- the attribute of a tuple
abbrev pub attribute_at : List ℕ → Datum → Result Datum Stop
attribute_at x d = and_then (tuple_in d) (λ t. known (attribute_of x t))

-- the part of a tuple or of a relation at these names
abbrev pub part_at : List (List ℕ) → Datum → Result Datum Stop
part_at xs (tuple t) = Ok (tuple (cut xs t))
part_at xs d = and_then (rows_of d) (λ r. as_value (project_of xs r))

abbrev pub with_new_names : List (List ℕ × List ℕ) → Datum → Result Datum Stop
with_new_names items d = and_then (rows_of d) (λ r. as_value (rename_of items r))

-- GROUP and WRAP of the attributes at these names, as the attribute c
abbrev pub nested_of : Nesting → List (List ℕ) → List ℕ → RowsData → RowsData
nested_of nesting.Group xs c r = grouping_of xs c r
nested_of nesting.Wrap xs c r = wrap_of xs c r

abbrev pub nested : Nesting → List (List ℕ) → List ℕ → Datum → Result Datum Stop
nested o xs c d = and_then (rows_of d) (λ r. as_value (nested_of o xs c r))

-- UNGROUP of a relation-valued attribute, UNWRAP of a tuple-valued one
abbrev pub is_relation_type : Option Ty → Bool
is_relation_type (Some (relation_type fs)) = true
is_relation_type o = false

abbrev pub is_tuple_type : Option Ty → Bool
is_tuple_type (Some (tuple_type fs)) = true
is_tuple_type o = false

abbrev pub unnested_of : Nesting → List ℕ → RowsData → Result RowsData Stop
unnested_of nesting.Group c r = if is_relation_type (by_name.get r.heading c) then Ok (ungroup_of c r) else Err Untyped
unnested_of nesting.Wrap c r = if is_tuple_type (by_name.get r.heading c) then Ok (unwrap_of c r) else Err Untyped

abbrev pub unnested : Nesting → List ℕ → Datum → Result Datum Stop
unnested o c d = and_then (and_then (rows_of d) (unnested_of o c)) as_value

-- ---- two operands
-- exactly one of two
abbrev pub one_alone : Bool → Bool → Bool
one_alone a b = if a then not b else b

-- of two truth values
abbrev pub decided : BinaryOperator → Bool → Bool → Result Datum Stop
decided binary.Or a b = Ok (boolean (a || b))
decided binary.Xor a b = Ok (boolean (one_alone a b))
decided binary.And a b = Ok (boolean (a && b))
decided o a b = Err Untyped

-- the quotient, cut off towards zero
abbrev pub quotient : ℤ → ℤ → Result Datum Stop
quotient m n = if int_eq n (pos 0) then Err (Error Divide) else within_64_bits (int_div m n)

-- of two integers
abbrev pub calculated : BinaryOperator → ℤ → ℤ → Result Datum Stop
calculated binary.Add m n = within_64_bits (m +ℤ n)
calculated binary.Subtract m n = within_64_bits (m -ℤ n)
calculated binary.Multiply m n = within_64_bits (m *ℤ n)
calculated binary.Divide m n = quotient m n
calculated o m n = Err Untyped

-- they are one heading
abbrev pub are_equal_headings : Header → Header → Bool
are_equal_headings g h = is_eq (fields_order (header_fields g) (header_fields h))

-- what is made of two relations of one heading
abbrev pub if_alike : {A : Type 0} → RowsData → RowsData → A → Result A Stop
if_alike r s a = if are_equal_headings r.heading s.heading then Ok a else Err Untyped

-- of two relations
abbrev pub related : BinaryOperator → RowsData → RowsData → Result RowsData Stop
related binary.Join r s = Ok (join_of r s)
related binary.Compose r s = Ok (compose_of r s)
related binary.Matching r s = Ok (matching_of r s)
related binary.NotMatching r s = Ok (not_matching_of r s)
related binary.Union r s = if_alike r s (union_of r s)
related binary.Intersect r s = if_alike r s (intersect_of r s)
related binary.Minus r s = if_alike r s (minus_of r s)
related o r s = Err Untyped

unfoldable pub of_truths : BinaryOperator → Datum → Datum → Result Datum Stop
of_truths o d e = and_then (both (truth_of d) (truth_of e)) (λ p. decided o p.0 p.1)

unfoldable pub of_integers : BinaryOperator → Datum → Datum → Result Datum Stop
of_integers o d e = and_then (both (integer_of d) (integer_of e)) (λ p. calculated o p.0 p.1)

unfoldable pub of_relations : BinaryOperator → Datum → Datum → Result Datum Stop
of_relations o d e = and_then (both (rows_of d) (rows_of e)) (λ p. and_then (related o p.0 p.1) as_value)

unfoldable pub concatenated : Datum → Datum → Result Datum Stop
concatenated d e = and_then (both (text_of d) (text_of e)) (λ p. Ok (char (p.0 ++ p.1)))

abbrev pub are_equal : Datum → Datum → Bool
are_equal d e = is_eq (order d e)

-- the tuple is one of the relation's
unfoldable pub member : Datum → Datum → Result Datum Stop
member d e = and_then (both (tuple_in d) (rows_of e)) (λ p. Ok (boolean (set.contains (body p.1) p.0)))

-- r is a subset of s, and a proper one
abbrev pub is_subset : RowsData → RowsData → Bool
is_subset r s = set.is_subset (body r) (body s)

abbrev pub is_proper_subset : RowsData → RowsData → Bool
is_proper_subset r s = is_subset r s && not (is_subset s r)

-- a test of two relations of one heading
unfoldable pub of_alike : (RowsData → RowsData → Bool) → Datum → Datum → Result Datum Stop
of_alike f d e = and_then (both (rows_of d) (rows_of e)) (λ p. if_alike p.0 p.1 (boolean (f p.0 p.1)))

-- integers by size, texts by code points, relations by inclusion
abbrev pub less : Datum → Datum → Result Datum Stop
less (integer m) e = and_then (integer_of e) (λ n. Ok (boolean (int_lt m n)))
less (char s) e = and_then (text_of e) (λ t. Ok (boolean (is_lt (text_cmp s t))))
less d e = of_alike is_proper_subset d e

abbrev pub at_most : Datum → Datum → Result Datum Stop
at_most (integer m) e = and_then (integer_of e) (λ n. Ok (boolean (int_le m n)))
at_most (char s) e = and_then (text_of e) (λ t. Ok (boolean (is_le (text_cmp s t))))
at_most d e = of_alike is_subset d e

abbrev pub operate : BinaryOperator → Datum → Datum → Result Datum Stop
operate binary.Or d e = of_truths binary.Or d e
operate binary.Xor d e = of_truths binary.Xor d e
operate binary.And d e = of_truths binary.And d e
operate binary.Equals d e = Ok (boolean (are_equal d e))
operate binary.Differs d e = Ok (boolean (not (are_equal d e)))
operate binary.Less d e = less d e
operate binary.Greater d e = less e d
operate binary.AtMost d e = at_most d e
operate binary.AtLeast d e = at_most e d
operate binary.In d e = member d e
operate binary.Add d e = of_integers binary.Add d e
operate binary.Subtract d e = of_integers binary.Subtract d e
operate binary.Concatenate d e = concatenated d e
operate binary.Multiply d e = of_integers binary.Multiply d e
operate binary.Divide d e = of_integers binary.Divide d e
operate o d e = of_relations o d e

-- ---- lists of operands

-- in turn: the answers, or the first error
abbrev pub in_turn : {X A : Type 0} → (X → Result A Stop) → List X → Result (List A) Stop
in_turn f [] = Ok []
in_turn f (x ∷ xs) = and_then (f x) (λ a. and_then (in_turn f xs) (λ rest. Ok (a ∷ rest)))

-- a tuple that has the heading
abbrev pub fits : Header → Attrs → Bool
fits h t = is_eq (fields_order (heading_of t) (header_fields h))

abbrev pub if_fits : Header → Attrs → Result Attrs Stop
if_fits h t = if fits h t then Ok t else Err Untyped

abbrev pub tuple_over : Header → Datum → Result Attrs Stop
tuple_over h d = and_then (tuple_in d) (if_fits h)

-- the relation of these tuples
abbrev pub relation_over : Header → List Datum → Result Datum Stop
relation_over h ds = and_then (in_turn (tuple_over h) ds) (λ ts. as_value (relation_from h ts))

-- the relation of no attributes that has a tuple
abbrev pub table_dee : RowsData
table_dee = relation_from by_name.empty (no_attrs ∷ [])
