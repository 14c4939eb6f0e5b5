-- The types that operators take and give.
use Rattle.std.specs.Prelude.{Bool, ◌&&◌, ◌||◌, List, [], ◌∷◌, Option, Some, if◌then◌else◌}
use Rattle.std.specs.FinMap as by_name
use Rattle.td_values.specs.Data.{Ty}
use Rattle.td_values.specs.Headings.{Header}
use Rattle.td_values.specs.declared.TypeKind.{TypeKind}
use Rattle.td_values.specs.declared.TypeKind.TheVariants as kind
use Rattle.td_tuples.specs.Unions.{joined, composed_columns}
use Rattle.td_syntax.specs.declared.tree.UnaryOperator.{UnaryOperator}
use Rattle.td_syntax.specs.declared.tree.UnaryOperator.TheVariants as unary
use Rattle.td_syntax.specs.declared.tree.BinaryOperator.{BinaryOperator}
use Rattle.td_syntax.specs.declared.tree.BinaryOperator.TheVariants as binary
use Rattle.td_syntax.specs.declared.tree.Aggregate.{Aggregate}
use Rattle.td_syntax.specs.declared.tree.Aggregate.TheVariants as aggregate
use Rattle.td_schema.specs.Kinds.{Name, same_type, same_kind, same_heading, is_boolean, is_integer, is_char, relation_heading, tuple_heading, agree_on_types}
use Rattle.td_schema.specs.Results.{where_true, where_some}

-- two attributes of one type
abbrev pub are_of_one_type : List (Name × Ty) → Bool
are_of_one_type (f ∷ g ∷ []) = same_type f.1 g.1
are_of_one_type _ = Bool.false

unfoldable pub closed_kind : TypeKind → Option TypeKind
closed_kind k = where_some (relation_heading k) (λ h. where_true (are_of_one_type (by_name.entries h)) (kind.Relation h))

abbrev pub unary_kind : UnaryOperator → TypeKind → Option TypeKind
unary_kind unary.Not k = where_true (is_boolean k) kind.Boolean
unary_kind unary.Negate k = where_true (is_integer k) kind.Integer
unary_kind unary.Closure k = closed_kind k
unary_kind unary.TupleFrom k = where_some (relation_heading k) (λ h. Some (kind.Tuple h))
unary_kind unary.IsEmpty k = where_some (relation_heading k) (λ h. Some kind.Boolean)
unary_kind unary.Count k = where_some (relation_heading k) (λ h. Some kind.Integer)

-- of two relations
abbrev pub of_headings : TypeKind → TypeKind → (Header → Header → Option TypeKind) → Option TypeKind
of_headings j k f = where_some (relation_heading j) (λ g. where_some (relation_heading k) (f g))

unfoldable pub joined_kind : TypeKind → TypeKind → Option TypeKind
joined_kind j k = of_headings j k (λ g h. where_true (agree_on_types g h) (kind.Relation (joined g h)))

unfoldable pub composed_kind : TypeKind → TypeKind → Option TypeKind
composed_kind j k = of_headings j k (λ g h. where_true (agree_on_types g h) (kind.Relation (composed_columns g h)))

unfoldable pub matched_kind : TypeKind → TypeKind → Option TypeKind
matched_kind j k = of_headings j k (λ g h. where_true (agree_on_types g h) (kind.Relation g))

unfoldable pub united_kind : TypeKind → TypeKind → Option TypeKind
united_kind j k = of_headings j k (λ g h. where_true (same_heading g h) (kind.Relation g))

unfoldable pub compared_kind : TypeKind → TypeKind → Option TypeKind
compared_kind j k = of_headings j k (λ g h. where_true (same_heading g h) kind.Boolean)

-- INTEGER, CHAR, or two relations of one heading
unfoldable pub ordered_kind : TypeKind → TypeKind → Option TypeKind
ordered_kind j k = if (is_integer j && is_integer k) || (is_char j && is_char k) then Some kind.Boolean else compared_kind j k

-- a tuple that has the relation's heading
unfoldable pub member_kind : TypeKind → TypeKind → Option TypeKind
member_kind j k = where_some (tuple_heading j) (λ g. where_some (relation_heading k) (λ h. where_true (same_heading g h) kind.Boolean))

unfoldable pub truth_kind : TypeKind → TypeKind → Option TypeKind
truth_kind j k = where_true (is_boolean j && is_boolean k) kind.Boolean

unfoldable pub number_kind : TypeKind → TypeKind → Option TypeKind
number_kind j k = where_true (is_integer j && is_integer k) kind.Integer

unfoldable pub text_kind : TypeKind → TypeKind → Option TypeKind
text_kind j k = where_true (is_char j && is_char k) kind.Char

-- of one type
unfoldable pub equal_kind : TypeKind → TypeKind → Option TypeKind
equal_kind j k = where_true (same_kind j k) kind.Boolean

abbrev pub binary_kind : BinaryOperator → TypeKind → TypeKind → Option TypeKind
binary_kind binary.Or j k = truth_kind j k
binary_kind binary.Xor j k = truth_kind j k
binary_kind binary.And j k = truth_kind j k
binary_kind binary.Equals j k = equal_kind j k
binary_kind binary.Differs j k = equal_kind j k
binary_kind binary.Less j k = ordered_kind j k
binary_kind binary.Greater j k = ordered_kind j k
binary_kind binary.AtMost j k = ordered_kind j k
binary_kind binary.AtLeast j k = ordered_kind j k
binary_kind binary.In j k = member_kind j k
binary_kind binary.Join j k = joined_kind j k
binary_kind binary.Union j k = united_kind j k
binary_kind binary.Intersect j k = united_kind j k
binary_kind binary.Minus j k = united_kind j k
binary_kind binary.Compose j k = composed_kind j k
binary_kind binary.Matching j k = matched_kind j k
binary_kind binary.NotMatching j k = matched_kind j k
binary_kind binary.Add j k = number_kind j k
binary_kind binary.Subtract j k = number_kind j k
binary_kind binary.Concatenate j k = text_kind j k
binary_kind binary.Multiply j k = number_kind j k
binary_kind binary.Divide j k = number_kind j k

-- the terms of an aggregate: SUM INTEGER, MAX and MIN INTEGER or CHAR, AND and OR BOOLEAN; it gives its terms' type
abbrev pub suits : Aggregate → TypeKind → Bool
suits aggregate.Sum k = is_integer k
suits aggregate.Max k = is_integer k || is_char k
suits aggregate.Min k = is_integer k || is_char k
suits aggregate.And k = is_boolean k
suits aggregate.Or k = is_boolean k
