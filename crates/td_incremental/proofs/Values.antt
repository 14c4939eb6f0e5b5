-- Values that are relations, of which the second gained the tuples of the third.
use Rattle.std.proofs.Common.{◌≡◌, Bool, true, false, if◌then◌else◌, List, ℕ, Result, Ok, Err, refl, sym, ap, subst}
use Rattle.std.specs.FinMap as by_name
use Rattle.td_values.specs.Data.{Datum, boolean, integer, char, user, tuple, relation}
use Rattle.td_values.specs.Headings.{Header}
use Rattle.td_values.specs.Rows.{RowsData}
use Rattle.td_values.proofs.TupleLemmas.{header_back}
use Rattle.td_syntax.specs.declared.tree.BinaryOperator.{BinaryOperator}
use Rattle.td_syntax.specs.declared.tree.BinaryOperator.TheVariants as binary
use Rattle.td_syntax.specs.declared.tree.Nesting.{Nesting}
use Rattle.td_syntax.specs.declared.tree.Nesting.TheVariants as nesting
use Rattle.td_algebra.specs.Functions.{intersect_of, minus_of, project_of, rename_of, ungroup_of, union_of, unwrap_of, wrap_of}
use Rattle.td_algebra.specs.Nested.{relation_value}
use Rattle.td_algebra.specs.Raising.{and_then}
use Rattle.td_algebra.specs.declared.errors.Stop.{Stop}
use Rattle.td_algebra.specs.declared.errors.Stop.TheVariants.{Untyped}
use Rattle.td_algebra.proofs.Openings.{tuple_list_back}
use Rattle.td_operators.specs.Operators.{as_value, is_relation_type, is_tuple_type, nested, of_relations, part_at, related, are_equal_headings, unnested, unnested_of, with_new_names}
use Rattle.td_operators.specs.Values.{both, rows_of}
use Rattle.td_incremental.proofs.Answers.{Grown, then_grown}
use Rattle.td_incremental.proofs.Operators.{common, common_with_it, composing_it, composing_its, joining_it, joining_its, matched, matching_it, projected, remaining, renamed_grown, ungrouped, united, unmatched, unwrapped, wrapped}
use Rattle.td_incremental.proofs.Walks.{IsGrown}

abbrev pub AreGrown : Result RowsData Stop → Result RowsData Stop → Result RowsData Stop → Type 0
AreGrown (Ok a) (Ok w) (Ok b) = IsGrown a w b
AreGrown (Ok a) (Ok w) (Err f) = ⊥
AreGrown (Ok a) (Err e) z = ⊥
AreGrown (Err e) y z = ⊥

-- all three are relations
abbrev pub GrownValue : Datum → Datum → Datum → Type 0
GrownValue d e g = AreGrown (rows_of d) (rows_of e) (rows_of g)

pub rows_back : (r : RowsData) → rows_of (relation_value r) ≡ Ok r
rows_back r = ap Ok (λ i. record { heading = header_back r.heading i; tuples = tuple_list_back r.tuples i })

pub as_grown : (a w b : RowsData) → IsGrown a w b → GrownValue (relation_value a) (relation_value w) (relation_value b)
as_grown a w b g =
    subst (λ x. AreGrown x (rows_of (relation_value w)) (rows_of (relation_value b))) (sym (rows_back a))
    (subst (λ y. AreGrown (Ok a) y (rows_of (relation_value b))) (sym (rows_back w))
    (subst (λ z. AreGrown (Ok a) (Ok w) z) (sym (rows_back b)) g))

pub as_values : (x y z : Result RowsData Stop) → Grown IsGrown x y z → Grown GrownValue (and_then x as_value) (and_then y as_value) (and_then z as_value)
as_values x y z h = then_grown IsGrown GrownValue as_value as_value as_value x y z h as_grown

all_values : (x y z : Result RowsData Stop) → AreGrown x y z → Grown IsGrown x y z
all_values (Ok a) (Ok w) (Ok b) h = h
all_values (Ok a) (Ok w) (Err f) h = absurd h
all_values (Ok a) (Err e) z h = absurd h
all_values (Err e) y z h = absurd h

pub as_rows : (x y z : Result Datum Stop) → Grown GrownValue x y z → Grown IsGrown (and_then x rows_of) (and_then y rows_of) (and_then z rows_of)
as_rows x y z h = then_grown GrownValue IsGrown rows_of rows_of rows_of x y z h (λ d e g grown. all_values (rows_of d) (rows_of e) (rows_of g) grown)

-- ---- what is made of relations
module _ (f : Datum → Result Datum Stop) (F : RowsData → Result Datum Stop) (is : (d : Datum) (r : RowsData) → rows_of d ≡ Ok r → f d ≡ F r) (each : (a w b : RowsData) → IsGrown a w b → Grown GrownValue (F a) (F w) (F b)) where
  by_rows : (d e g : Datum) (x y z : Result RowsData Stop) → rows_of d ≡ x → rows_of e ≡ y → rows_of g ≡ z → AreGrown x y z → Grown GrownValue (f d) (f e) (f g)
  by_rows d e g (Ok a) (Ok w) (Ok b) p q r h =
      subst (λ x. Grown GrownValue x (f e) (f g)) (sym (is d a p))
      (subst (λ y. Grown GrownValue (F a) y (f g)) (sym (is e w q))
      (subst (λ z. Grown GrownValue (F a) (F w) z) (sym (is g b r)) (each a w b h)))
  by_rows d e g (Ok a) (Ok w) (Err k) p q r h = absurd h
  by_rows d e g (Ok a) (Err k) z p q r h = absurd h
  by_rows d e g (Err k) y z p q r h = absurd h

  pub of_grown : (d e g : Datum) → GrownValue d e g → Grown GrownValue (f d) (f e) (f g)
  of_grown d e g h = by_rows d e g (rows_of d) (rows_of e) (rows_of g) refl refl refl h

-- ---- one operand
pub part_of_rows : (xs : List (List ℕ)) (d : Datum) (r : RowsData) → rows_of d ≡ Ok r → part_at xs d ≡ as_value (project_of xs r)
part_of_rows xs (relation h ts) r e = ap (λ x. and_then x (λ q. as_value (project_of xs q))) e
part_of_rows xs (tuple t) r e = cc
part_of_rows xs (boolean b) r e = cc
part_of_rows xs (integer n) r e = cc
part_of_rows xs (char s) r e = cc
part_of_rows xs (user p is) r e = cc

pub part_grown : (xs : List (List ℕ)) (d e g : Datum) → GrownValue d e g → Grown GrownValue (part_at xs d) (part_at xs e) (part_at xs g)
part_grown xs = of_grown (part_at xs) (λ r. as_value (project_of xs r)) (part_of_rows xs) (λ a w b g. as_grown (project_of xs a) (project_of xs w) (project_of xs b) (projected a w b g xs))

pub new_names_grown : (items : List (List ℕ × List ℕ)) (d e g : Datum) → GrownValue d e g → Grown GrownValue (with_new_names items d) (with_new_names items e) (with_new_names items g)
new_names_grown items = of_grown (with_new_names items) (λ r. as_value (rename_of items r)) (λ d r e. ap (λ x. and_then x (λ q. as_value (rename_of items q))) e) (λ a w b g. as_grown (rename_of items a) (rename_of items w) (rename_of items b) (renamed_grown a w b g items))

pub wrap_grown : (xs : List (List ℕ)) (c : List ℕ) (d e g : Datum) → GrownValue d e g → Grown GrownValue (nested nesting.Wrap xs c d) (nested nesting.Wrap xs c e) (nested nesting.Wrap xs c g)
wrap_grown xs c = of_grown (nested nesting.Wrap xs c) (λ r. as_value (wrap_of xs c r)) (λ d r e. ap (λ x. and_then x (λ q. as_value (wrap_of xs c q))) e) (λ a w b g. as_grown (wrap_of xs c a) (wrap_of xs c w) (wrap_of xs c b) (wrapped a w b g xs c))

-- both answers are wanted, or neither
if_grown : (p q r : Bool) (x y z : RowsData) → p ≡ q → r ≡ q → IsGrown x y z → Grown IsGrown (if p then Ok x else Err Untyped) (if q then Ok y else Err Untyped) (if r then Ok z else Err Untyped)
if_grown true true true x y z e f g = g
if_grown true true false x y z e f g = cc
if_grown true false r x y z e f g = cc
if_grown false q r x y z e f g = tt

open_rows : (o : Nesting) (c : List ℕ) (a w b : RowsData) → IsGrown a w b → Grown IsGrown (unnested_of o c a) (unnested_of o c w) (unnested_of o c b)
open_rows nesting.Group c a w b g =
    let test : Header → Bool = λ h. is_relation_type (by_name.get h c) in
    if_grown (test a.heading) (test w.heading) (test b.heading) (ungroup_of c a) (ungroup_of c w) (ungroup_of c b) (ap test g.old_heading) (ap test g.new_heading) (ungrouped a w b g c)
open_rows nesting.Wrap c a w b g =
    let test : Header → Bool = λ h. is_tuple_type (by_name.get h c) in
    if_grown (test a.heading) (test w.heading) (test b.heading) (unwrap_of c a) (unwrap_of c w) (unwrap_of c b) (ap test g.old_heading) (ap test g.new_heading) (unwrapped a w b g c)

pub open_grown : (o : Nesting) (c : List ℕ) (d e g : Datum) → GrownValue d e g → Grown GrownValue (unnested o c d) (unnested o c e) (unnested o c g)
open_grown o c = of_grown (unnested o c) (λ r. and_then (unnested_of o c r) as_value) (λ d r e. ap (λ x. and_then (and_then x (unnested_of o c)) as_value) e) (λ a w b g. as_values (unnested_of o c a) (unnested_of o c w) (unnested_of o c b) (open_rows o c a w b g))

-- ---- two operands
abbrev pub relate : BinaryOperator → RowsData → RowsData → Result Datum Stop
relate o r s = and_then (related o r s) as_value

abbrev IsLeft : BinaryOperator → Type 0
IsLeft o = (a w b s : RowsData) → IsGrown a w b → Grown IsGrown (related o a s) (related o w s) (related o b s)

abbrev IsRight : BinaryOperator → Type 0
IsRight o = (a w b s : RowsData) → IsGrown a w b → Grown IsGrown (related o s a) (related o s w) (related o s b)

-- the other operand's rows, or its error
abbrev on_left : BinaryOperator → Result RowsData Stop → RowsData → Result Datum Stop
on_left o y r = and_then (and_then y (λ s. Ok (r, s))) (λ (p : RowsData × RowsData). relate o p.0 p.1)

pub left_operand : (o : BinaryOperator) → IsLeft o → (v d e g : Datum) → GrownValue d e g → Grown GrownValue (of_relations o d v) (of_relations o e v) (of_relations o g v)
unfolding of_relations
left_operand o is v =
    of_grown (λ d. of_relations o d v) (on_left o (rows_of v))
    (λ d r e. ap (λ x. and_then (both x (rows_of v)) (λ (p : RowsData × RowsData). relate o p.0 p.1)) e)
    (λ a w b g. by (rows_of v) a w b g)
  where
    by : (y : Result RowsData Stop) (a w b : RowsData) → IsGrown a w b → Grown GrownValue (on_left o y a) (on_left o y w) (on_left o y b)
    by (Ok s) a w b g = as_values (related o a s) (related o w s) (related o b s) (is a w b s g)
    by (Err k) a w b g = tt

pub right_operand : (o : BinaryOperator) → IsRight o → (v d e g : Datum) → GrownValue d e g → Grown GrownValue (of_relations o v d) (of_relations o v e) (of_relations o v g)
unfolding of_relations
right_operand o is v d e g h = by (rows_of v)
  where
    by : (y : Result RowsData Stop) → Grown GrownValue (and_then (both y (rows_of d)) (λ (p : RowsData × RowsData). relate o p.0 p.1)) (and_then (both y (rows_of e)) (λ (p : RowsData × RowsData). relate o p.0 p.1)) (and_then (both y (rows_of g)) (λ (p : RowsData × RowsData). relate o p.0 p.1))
    by (Ok s) =
        of_grown (λ x. and_then (both (Ok s) (rows_of x)) (λ (p : RowsData × RowsData). relate o p.0 p.1)) (relate o s)
        (λ x r e. ap (λ y. and_then (both (Ok s) y) (λ (p : RowsData × RowsData). relate o p.0 p.1)) e)
        (λ a w b k. as_values (related o s a) (related o s w) (related o s b) (is a w b s k))
        d e g h
    by (Err k) = tt

-- both operands gained tuples
abbrev AreBoth : BinaryOperator → Type 0
AreBoth o = (a w b k l m : RowsData) → IsGrown a w b → IsGrown k l m → Grown IsGrown (related o a k) (related o w l) (related o b m)

abbrev relate_both : BinaryOperator → Result RowsData Stop → Result RowsData Stop → Result Datum Stop
relate_both o x y = and_then (both x y) (λ (p : RowsData × RowsData). relate o p.0 p.1)

module _ (o : BinaryOperator) (are : AreBoth o) where
  both_rows : (x y z p q r : Result RowsData Stop) → AreGrown x y z → AreGrown p q r → Grown GrownValue (relate_both o x p) (relate_both o y q) (relate_both o z r)
  both_rows (Ok a) (Ok w) (Ok b) (Ok k) (Ok l) (Ok m) g h = as_values (related o a k) (related o w l) (related o b m) (are a w b k l m g h)
  both_rows (Ok a) (Ok w) (Ok b) (Ok k) (Ok l) (Err f) g h = absurd h
  both_rows (Ok a) (Ok w) (Ok b) (Ok k) (Err f) r g h = absurd h
  both_rows (Ok a) (Ok w) (Ok b) (Err f) q r g h = absurd h
  both_rows (Ok a) (Ok w) (Err f) p q r g h = absurd g
  both_rows (Ok a) (Err f) z p q r g h = absurd g
  both_rows (Err f) y z p q r g h = absurd g

  pub both_operands : (d e g u v w : Datum) → GrownValue d e g → GrownValue u v w → Grown GrownValue (of_relations o d u) (of_relations o e v) (of_relations o g w)
  unfolding of_relations
  both_operands d e g u v w h k = both_rows (rows_of d) (rows_of e) (rows_of g) (rows_of u) (rows_of v) (rows_of w) h k

pub left_matching : IsLeft binary.Matching
left_matching a w b s g = matched a w b g s

pub right_matching : IsRight binary.Matching
right_matching a w b s g = matching_it a w b g s

pub left_not_matching : IsLeft binary.NotMatching
left_not_matching a w b s g = unmatched a w b g s

pub left_join : IsLeft binary.Join
left_join a w b s g = joining_its a w b g s

pub right_join : IsRight binary.Join
right_join a w b s g = joining_it a w b g s

pub left_minus : IsLeft binary.Minus
left_minus a w b s g = if_grown (are_equal_headings a.heading s.heading) (are_equal_headings w.heading s.heading) (are_equal_headings b.heading s.heading) (minus_of a s) (minus_of w s) (minus_of b s) (ap (λ h. are_equal_headings h s.heading) g.old_heading) (ap (λ h. are_equal_headings h s.heading) g.new_heading) (remaining a w b g s)

pub left_intersect : IsLeft binary.Intersect
left_intersect a w b s g = if_grown (are_equal_headings a.heading s.heading) (are_equal_headings w.heading s.heading) (are_equal_headings b.heading s.heading) (intersect_of a s) (intersect_of w s) (intersect_of b s) (ap (λ h. are_equal_headings h s.heading) g.old_heading) (ap (λ h. are_equal_headings h s.heading) g.new_heading) (common a w b g s)

pub right_intersect : IsRight binary.Intersect
right_intersect a w b s g = if_grown (are_equal_headings s.heading a.heading) (are_equal_headings s.heading w.heading) (are_equal_headings s.heading b.heading) (intersect_of s a) (intersect_of s w) (intersect_of s b) (ap (λ h. are_equal_headings s.heading h) g.old_heading) (ap (λ h. are_equal_headings s.heading h) g.new_heading) (common_with_it a w b g s)

pub left_compose : IsLeft binary.Compose
left_compose a w b s g = composing_its a w b g s

pub right_compose : IsRight binary.Compose
right_compose a w b s g = composing_it a w b g s

pub both_union : AreBoth binary.Union
both_union a w b k l m g h = if_grown (are_equal_headings a.heading k.heading) (are_equal_headings w.heading l.heading) (are_equal_headings b.heading m.heading) (union_of a k) (union_of w l) (union_of b m) (λ i. are_equal_headings (g.old_heading i) (h.old_heading i)) (λ i. are_equal_headings (g.new_heading i) (h.new_heading i)) (united a w b k l m g h)
