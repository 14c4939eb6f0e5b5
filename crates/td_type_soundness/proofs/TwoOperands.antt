-- Operators of two operands: of values of kinds they make one of their kind, or raise an error.
use Rattle.std.proofs.Common.{◌≡◌, ◌++◌, ℕ, ℤ, pos, Some, ◌+ℤ◌, ◌-ℤ◌, ◌*ℤ◌, int_lt, int_le, int_div, Bool, true, false, not, if◌then◌else◌, List, Ok, Err, refl, sym, ◌∙◌, subst}
use Rattle.std.specs.FinSet as set
use Rattle.std.specs.Ordering.{int_eq, is_le, is_lt}
use Rattle.td_values.specs.Data.{Datum, boolean, integer, char, relation, Attrs}
use Rattle.td_values.specs.Headings.{Header, header_fields}
use Rattle.td_values.specs.Order.{text_cmp}
use Rattle.td_values.specs.Rows.{RowsData}
use Rattle.td_values.specs.declared.TypeKind.{TypeKind}
use Rattle.td_values.specs.declared.TypeKind.TheVariants as kind
use Rattle.td_relations.specs.Sets.{body}
use Rattle.td_syntax.specs.declared.tree.BinaryOperator.{BinaryOperator}
use Rattle.td_syntax.specs.declared.tree.BinaryOperator.TheVariants as binary
use Rattle.td_tuples.specs.Unions.{joined, composed_columns}
use Rattle.td_values.specs.declared.raises.Raise.TheVariants.{Overflow, Divide}
use Rattle.td_algebra.specs.declared.errors.Stop.TheVariants.{Untyped, Error}
use Rattle.td_algebra.specs.Functions.{union_of, intersect_of, minus_of}
use Rattle.td_algebra.specs.Raising.{and_then}
use Rattle.td_algebra.specs.Summaries.{in_64_bits}
use Rattle.td_schema.specs.Kinds.{same_heading, agree_on_types}
use Rattle.td_schema.specs.Operators as tables
use Rattle.td_schema.specs.Schemas.{SchemaData}
use Rattle.td_operators.specs.Operators.{if_alike, related, decided, calculated, of_truths, of_integers, of_relations, concatenated, are_equal, member, is_subset, is_proper_subset, of_alike, less, at_most, operate, as_value}
use Rattle.td_operators.specs.Values.{truth_of, integer_of, text_of, tuple_in, rows_of, both}
use Rattle.td_type_soundness.specs.Meanings.{OrError, GivesValue, HasKind, IsTupleOver, IsRelationOver, GivesRelation}
use Rattle.td_type_soundness.proofs.Errors.{goes_on, both_are, error_is}
use Rattle.td_type_soundness.proofs.OneOperand.{of_kind, as_relation, in_64_bits_gives}
use Rattle.td_type_soundness.proofs.Relations.{moved, union_is, intersection_is, difference_is, matching_is, not_matching_is, join_is, composition_is}
use Rattle.td_type_soundness.proofs.Shapes as shapes
use Rattle.td_type_soundness.proofs.Tables.{one_heading, heading_itself, OfRelations, IsOrdered, integers, characters, sets, truths, numbers, texts, equals, joins, composes, matches, unites, belongs, orders}
use Rattle.td_type_soundness.proofs.Values.{Whatever, truth_given, integer_given, text_given, tuple_given, rows_given}

module _ (s : SchemaData) where
  -- ---- of two truth values, integers, texts
  truths_give : (o : BinaryOperator) (d e : Datum) → ((a b : Bool) → GivesValue s kind.Boolean (decided o a b)) → HasKind s kind.Boolean d → HasKind s kind.Boolean e → GivesValue s kind.Boolean (of_truths o d e)
  unfolding of_truths
  truths_give o d e each p q =
      goes_on (λ (x : Bool × Bool). Whatever x.0 × Whatever x.1) (HasKind s kind.Boolean) (λ x. decided o x.0 x.1) (both (truth_of d) (truth_of e))
      (both_are (Whatever {A = Bool}) (Whatever {A = Bool}) (truth_of d) (truth_of e) (truth_given s d p) (truth_given s e q))
      (λ x any. each x.0 x.1)

  integers_give : (o : BinaryOperator) (d e : Datum) → ((m n : ℤ) → GivesValue s kind.Integer (calculated o m n)) → HasKind s kind.Integer d → HasKind s kind.Integer e → GivesValue s kind.Integer (of_integers o d e)
  unfolding of_integers
  integers_give o d e each p q =
      goes_on (λ (x : ℤ × ℤ). Whatever x.0 × Whatever x.1) (HasKind s kind.Integer) (λ x. calculated o x.0 x.1) (both (integer_of d) (integer_of e))
      (both_are (Whatever {A = ℤ}) (Whatever {A = ℤ}) (integer_of d) (integer_of e) (integer_given s d p) (integer_given s e q))
      (λ x any. each x.0 x.1)

  divided : (b : Bool) (m n : ℤ) → GivesValue s kind.Integer (if b then Err (Error Divide) else (if in_64_bits (int_div m n) then Ok (integer (int_div m n)) else Err (Error Overflow)))
  divided true m n = error_is Divide
  divided false m n = in_64_bits_gives s (in_64_bits (int_div m n)) (int_div m n)

  texts_give : (d e : Datum) → HasKind s kind.Char d → HasKind s kind.Char e → GivesValue s kind.Char (concatenated d e)
  unfolding concatenated
  texts_give d e p q =
      goes_on (λ (x : List ℕ × List ℕ). Whatever x.0 × Whatever x.1) (HasKind s kind.Char) (λ x. Ok (char (x.0 ++ x.1))) (both (text_of d) (text_of e))
      (both_are (Whatever {A = List ℕ}) (Whatever {A = List ℕ}) (text_of d) (text_of e) (text_given s d p) (text_given s e q))
      (λ x any. (refl, tt))

  -- ---- of a tuple and a relation
  member_gives : (g h : Header) (d e : Datum) → HasKind s (kind.Tuple g) d → HasKind s (kind.Relation h) e → GivesValue s kind.Boolean (member d e)
  unfolding member
  member_gives g h d e p q =
      goes_on (λ (x : Attrs × RowsData). IsTupleOver s g x.0 × IsRelationOver s h x.1) (HasKind s kind.Boolean) (λ x. Ok (boolean (set.contains (body x.1) x.0))) (both (tuple_in d) (rows_of e))
      (both_are (IsTupleOver s g) (IsRelationOver s h) (tuple_in d) (rows_of e) (tuple_given s g d p) (rows_given s h e q))
      (λ x is. (refl, tt))

  -- ---- of two relations
  if_one : {A : Type 0} (P : A → Type 0) (b : Bool) (a : A) → b ≡ true → P a → OrError P (if b then Ok a else Err Untyped)
  if_one P true a e p = p
  if_one P false a e p = absurd (cc)

  alike : (g h : Header) (q r : RowsData) → same_heading g h ≡ true → IsRelationOver s g q → IsRelationOver s h r → same_heading q.heading r.heading ≡ true
  alike g h q r e a b = heading_itself q.heading r.heading (a.heading ∙ one_heading g h e ∙ sym b.heading)

  alike_give : (f : RowsData → RowsData → Bool) (g h : Header) (d e : Datum) → same_heading g h ≡ true → HasKind s (kind.Relation g) d → HasKind s (kind.Relation h) e → GivesValue s kind.Boolean (of_alike f d e)
  unfolding of_alike
  alike_give f g h d e one p q =
      goes_on (λ (x : RowsData × RowsData). IsRelationOver s g x.0 × IsRelationOver s h x.1) (HasKind s kind.Boolean) (λ x. if_alike x.0 x.1 (boolean (f x.0 x.1))) (both (rows_of d) (rows_of e))
      (both_are (IsRelationOver s g) (IsRelationOver s h) (rows_of d) (rows_of e) (rows_given s g d p) (rows_given s h e q))
      (λ x is. if_one (HasKind s kind.Boolean) (same_heading x.0.heading x.1.heading) (boolean (f x.0 x.1)) (alike g h x.0 x.1 one is.0 is.1) (refl, tt))

  relations_give : (o : BinaryOperator) (g h n : Header) (d e : Datum) → ((q r : RowsData) → IsRelationOver s g q → IsRelationOver s h r → GivesRelation s n (related o q r)) → HasKind s (kind.Relation g) d → HasKind s (kind.Relation h) e → GivesValue s (kind.Relation n) (of_relations o d e)
  unfolding of_relations
  relations_give o g h n d e each p q =
      goes_on (λ (x : RowsData × RowsData). IsRelationOver s g x.0 × IsRelationOver s h x.1) (HasKind s (kind.Relation n)) (λ x. and_then (related o x.0 x.1) as_value) (both (rows_of d) (rows_of e))
      (both_are (IsRelationOver s g) (IsRelationOver s h) (rows_of d) (rows_of e) (rows_given s g d p) (rows_given s h e q))
      (λ x is. goes_on (IsRelationOver s n) (HasKind s (kind.Relation n)) as_value (related o x.0 x.1) (each x.0 x.1 is.0 is.1) (λ r made. as_relation s n r made))

  -- ---- by size, by code points, by inclusion
  less_integers : (d e : Datum) → HasKind s kind.Integer d → HasKind s kind.Integer e → GivesValue s kind.Boolean (less d e)
  less_integers d e p q =
      let m = shapes.an_integer d p.0 in
      subst (λ c. GivesValue s kind.Boolean (less c e)) (sym m.1)
      (goes_on (Whatever {A = ℤ}) (HasKind s kind.Boolean) (λ n. Ok (boolean (int_lt m.0 n))) (integer_of e) (integer_given s e q) (λ n any. (refl, tt)))

  less_texts : (d e : Datum) → HasKind s kind.Char d → HasKind s kind.Char e → GivesValue s kind.Boolean (less d e)
  less_texts d e p q =
      let x = shapes.a_text d p.0 in
      subst (λ c. GivesValue s kind.Boolean (less c e)) (sym x.1)
      (goes_on (Whatever {A = List ℕ}) (HasKind s kind.Boolean) (λ y. Ok (boolean (is_lt (text_cmp x.0 y)))) (text_of e) (text_given s e q) (λ y any. (refl, tt)))

  less_relations : (g h : Header) (d e : Datum) → same_heading g h ≡ true → HasKind s (kind.Relation g) d → HasKind s (kind.Relation h) e → GivesValue s kind.Boolean (less d e)
  less_relations g h d e one p q =
      let r = shapes.a_relation d (header_fields g) p.0 in
      subst (λ c. GivesValue s kind.Boolean (less c e)) (sym r.2) (alike_give is_proper_subset g h (relation r.0 r.1) e one (subst (HasKind s (kind.Relation g)) r.2 p) q)

  at_most_integers : (d e : Datum) → HasKind s kind.Integer d → HasKind s kind.Integer e → GivesValue s kind.Boolean (at_most d e)
  at_most_integers d e p q =
      let m = shapes.an_integer d p.0 in
      subst (λ c. GivesValue s kind.Boolean (at_most c e)) (sym m.1)
      (goes_on (Whatever {A = ℤ}) (HasKind s kind.Boolean) (λ n. Ok (boolean (int_le m.0 n))) (integer_of e) (integer_given s e q) (λ n any. (refl, tt)))

  at_most_texts : (d e : Datum) → HasKind s kind.Char d → HasKind s kind.Char e → GivesValue s kind.Boolean (at_most d e)
  at_most_texts d e p q =
      let x = shapes.a_text d p.0 in
      subst (λ c. GivesValue s kind.Boolean (at_most c e)) (sym x.1)
      (goes_on (Whatever {A = List ℕ}) (HasKind s kind.Boolean) (λ y. Ok (boolean (is_le (text_cmp x.0 y)))) (text_of e) (text_given s e q) (λ y any. (refl, tt)))

  at_most_relations : (g h : Header) (d e : Datum) → same_heading g h ≡ true → HasKind s (kind.Relation g) d → HasKind s (kind.Relation h) e → GivesValue s kind.Boolean (at_most d e)
  at_most_relations g h d e one p q =
      let r = shapes.a_relation d (header_fields g) p.0 in
      subst (λ c. GivesValue s kind.Boolean (at_most c e)) (sym r.2) (alike_give is_subset g h (relation r.0 r.1) e one (subst (HasKind s (kind.Relation g)) r.2 p) q)

  -- ---- by the tables
  module _ (i j k : TypeKind) (d e : Datum) (p : HasKind s i d) (q : HasKind s j e) where
    by_truths : (o : BinaryOperator) → ((a b : Bool) → GivesValue s kind.Boolean (decided o a b)) → tables.truth_kind i j ≡ Some k → GivesValue s k (of_truths o d e)
    by_truths o each h =
        let t = truths i j k h in
        subst (λ l. GivesValue s l (of_truths o d e)) t.2 (truths_give o d e each (of_kind s i kind.Boolean d t.0 p) (of_kind s j kind.Boolean e t.1 q))

    by_integers : (o : BinaryOperator) → ((m n : ℤ) → GivesValue s kind.Integer (calculated o m n)) → tables.number_kind i j ≡ Some k → GivesValue s k (of_integers o d e)
    by_integers o each h =
        let t = numbers i j k h in
        subst (λ l. GivesValue s l (of_integers o d e)) t.2 (integers_give o d e each (of_kind s i kind.Integer d t.0 p) (of_kind s j kind.Integer e t.1 q))

    by_texts : tables.text_kind i j ≡ Some k → GivesValue s k (concatenated d e)
    by_texts h =
        let t = texts i j k h in
        subst (λ l. GivesValue s l (concatenated d e)) t.2 (texts_give d e (of_kind s i kind.Char d t.0 p) (of_kind s j kind.Char e t.1 q))

    by_member : tables.member_kind i j ≡ Some k → GivesValue s k (member d e)
    by_member h =
        let t = belongs i j k h in
        subst (λ l. GivesValue s l (member d e)) t.result (member_gives t.first t.second d e (of_kind s i (kind.Tuple t.first) d t.left p) (of_kind s j (kind.Relation t.second) e t.right q))

    a_truth : (b : Bool) → kind.Boolean ≡ k → GivesValue s k (Ok (boolean b))
    a_truth b t = subst (λ l. HasKind s l (boolean b)) t (refl, tt)

    by_relations : (o : BinaryOperator) (test : Header → Header → Bool) (made : Header → Header → Header) → ((g h : Header) (x y : RowsData) → test g h ≡ true → IsRelationOver s g x → IsRelationOver s h y → GivesRelation s (made g h) (related o x y)) → OfRelations i j k test (λ g h. kind.Relation (made g h)) → GivesValue s k (of_relations o d e)
    by_relations o test made each t =
        subst (λ l. GivesValue s l (of_relations o d e)) t.result
        (relations_give o t.first t.second (made t.first t.second) d e (λ x y. each t.first t.second x y t.tested) (of_kind s i (kind.Relation t.first) d t.left p) (of_kind s j (kind.Relation t.second) e t.right q))

  by_less : (i j k : TypeKind) (d e : Datum) → HasKind s i d → HasKind s j e → IsOrdered i j k → GivesValue s k (less d e)
  by_less i j k d e p q (integers a b t) = subst (λ l. GivesValue s l (less d e)) t (less_integers d e (of_kind s i kind.Integer d a p) (of_kind s j kind.Integer e b q))
  by_less i j k d e p q (characters a b t) = subst (λ l. GivesValue s l (less d e)) t (less_texts d e (of_kind s i kind.Char d a p) (of_kind s j kind.Char e b q))
  by_less i j k d e p q (sets t) =
      subst (λ l. GivesValue s l (less d e)) t.result
      (less_relations t.first t.second d e t.tested (of_kind s i (kind.Relation t.first) d t.left p) (of_kind s j (kind.Relation t.second) e t.right q))

  by_at_most : (i j k : TypeKind) (d e : Datum) → HasKind s i d → HasKind s j e → IsOrdered i j k → GivesValue s k (at_most d e)
  by_at_most i j k d e p q (integers a b t) = subst (λ l. GivesValue s l (at_most d e)) t (at_most_integers d e (of_kind s i kind.Integer d a p) (of_kind s j kind.Integer e b q))
  by_at_most i j k d e p q (characters a b t) = subst (λ l. GivesValue s l (at_most d e)) t (at_most_texts d e (of_kind s i kind.Char d a p) (of_kind s j kind.Char e b q))
  by_at_most i j k d e p q (sets t) =
      subst (λ l. GivesValue s l (at_most d e)) t.result
      (at_most_relations t.first t.second d e t.tested (of_kind s i (kind.Relation t.first) d t.left p) (of_kind s j (kind.Relation t.second) e t.right q))

  -- the operands the other way round
  turned : (i j k : TypeKind) → IsOrdered i j k → IsOrdered j i k
  turned i j k (integers a b t) = integers b a t
  turned i j k (characters a b t) = characters b a t
  turned i j k (sets t) = sets (record {
    first = t.second;
    second = t.first;
    left = t.right;
    right = t.left;
    tested = heading_itself t.second t.first (sym (one_heading t.first t.second t.tested));
    result = t.result;
  })

  -- ---- the relations that are related
  the_union : (g h : Header) (q r : RowsData) → same_heading g h ≡ true → IsRelationOver s g q → IsRelationOver s h r → GivesRelation s g (related binary.Union q r)
  the_union g h q r e a b = if_one (IsRelationOver s g) (same_heading q.heading r.heading) (union_of q r) (alike g h q r e a b) (union_is s g q r a (moved s h g r (sym (one_heading g h e)) b))

  the_intersection : (g h : Header) (q r : RowsData) → same_heading g h ≡ true → IsRelationOver s g q → IsRelationOver s h r → GivesRelation s g (related binary.Intersect q r)
  the_intersection g h q r e a b = if_one (IsRelationOver s g) (same_heading q.heading r.heading) (intersect_of q r) (alike g h q r e a b) (intersection_is s g q r a)

  the_difference : (g h : Header) (q r : RowsData) → same_heading g h ≡ true → IsRelationOver s g q → IsRelationOver s h r → GivesRelation s g (related binary.Minus q r)
  the_difference g h q r e a b = if_one (IsRelationOver s g) (same_heading q.heading r.heading) (minus_of q r) (alike g h q r e a b) (difference_is s g q r a)

  pub binary_gives : (o : BinaryOperator) (i j k : TypeKind) (d e : Datum) → tables.binary_kind o i j ≡ Some k → HasKind s i d → HasKind s j e → GivesValue s k (operate o d e)
  binary_gives binary.Or i j k d e h p q = by_truths i j k d e p q binary.Or (λ a b. (refl, tt)) h
  binary_gives binary.Xor i j k d e h p q = by_truths i j k d e p q binary.Xor (λ a b. (refl, tt)) h
  binary_gives binary.And i j k d e h p q = by_truths i j k d e p q binary.And (λ a b. (refl, tt)) h
  binary_gives binary.Equals i j k d e h p q = a_truth i j k d e p q (are_equal d e) (equals i j k h)
  binary_gives binary.Differs i j k d e h p q = a_truth i j k d e p q (not (are_equal d e)) (equals i j k h)
  binary_gives binary.Less i j k d e h p q = by_less i j k d e p q (orders i j k h)
  binary_gives binary.Greater i j k d e h p q = by_less j i k e d q p (turned i j k (orders i j k h))
  binary_gives binary.AtMost i j k d e h p q = by_at_most i j k d e p q (orders i j k h)
  binary_gives binary.AtLeast i j k d e h p q = by_at_most j i k e d q p (turned i j k (orders i j k h))
  binary_gives binary.In i j k d e h p q = by_member i j k d e p q h
  binary_gives binary.Join i j k d e h p q = by_relations i j k d e p q binary.Join agree_on_types joined (λ f g x y t a b. join_is s f g x y a b) (joins i j k h)
  binary_gives binary.Union i j k d e h p q = by_relations i j k d e p q binary.Union same_heading (λ f g. f) the_union (unites i j k h)
  binary_gives binary.Intersect i j k d e h p q = by_relations i j k d e p q binary.Intersect same_heading (λ f g. f) the_intersection (unites i j k h)
  binary_gives binary.Minus i j k d e h p q = by_relations i j k d e p q binary.Minus same_heading (λ f g. f) the_difference (unites i j k h)
  binary_gives binary.Compose i j k d e h p q = by_relations i j k d e p q binary.Compose agree_on_types composed_columns (λ f g x y t a b. composition_is s f g x y a b) (composes i j k h)
  binary_gives binary.Matching i j k d e h p q = by_relations i j k d e p q binary.Matching agree_on_types (λ f g. f) (λ f g x y t a b. matching_is s f x y a) (matches i j k h)
  binary_gives binary.NotMatching i j k d e h p q = by_relations i j k d e p q binary.NotMatching agree_on_types (λ f g. f) (λ f g x y t a b. not_matching_is s f x y a) (matches i j k h)
  binary_gives binary.Add i j k d e h p q = by_integers i j k d e p q binary.Add (λ m n. in_64_bits_gives s (in_64_bits (m +ℤ n)) (m +ℤ n)) h
  binary_gives binary.Subtract i j k d e h p q = by_integers i j k d e p q binary.Subtract (λ m n. in_64_bits_gives s (in_64_bits (m -ℤ n)) (m -ℤ n)) h
  binary_gives binary.Concatenate i j k d e h p q = by_texts i j k d e p q h
  binary_gives binary.Multiply i j k d e h p q = by_integers i j k d e p q binary.Multiply (λ m n. in_64_bits_gives s (in_64_bits (m *ℤ n)) (m *ℤ n)) h
  binary_gives binary.Divide i j k d e h p q = by_integers i j k d e p q binary.Divide (λ m n. divided (int_eq n (pos 0)) m n) h
