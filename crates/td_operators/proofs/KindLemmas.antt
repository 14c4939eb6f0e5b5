-- Values by their kinds, and tests that operators make before they work.
use Rattle.std.proofs.Common.{◌≡◌, ◌↔◌, ℕ, Bool, true, false, List, [], ◌∷◌, Option, None, Some, Result, Ok, Err, IsTrue, refl, ap, sym, ◌∙◌}
use Rattle.std.specs.FinMap as by_name
use Rattle.td_values.specs.Data.{Ty, boolean_type, integer_type, char_type, user_type, tuple_type, relation_type, Datum, boolean, integer, char, user, tuple, relation, items_of, Attrs}
use Rattle.td_values.specs.Headings.{Header}
use Rattle.td_values.specs.Rows.{RowsData}
use Rattle.td_tuples.specs.Nestings.{IsRelationValued, IsTupleValued}
use Rattle.td_tuples.proofs.Inner.{columns_back}
use Rattle.td_algebra.specs.declared.errors.Stop.{Stop}
use Rattle.td_algebra.specs.Nested.{relation_value}
use Rattle.td_algebra.proofs.Openings.{tuple_list_back}
use Rattle.td_operators.specs.ForProofs.Kinds.{is_scalar}
use Rattle.td_operators.specs.Operators.{less, at_most, of_alike, is_subset, is_proper_subset, is_relation_type, is_tuple_type}
use Rattle.td_operators.specs.Values.{rows_of, item_list}

-- a relation's value has the relation, and a user value its components
pub rows_back : (d : Datum) (r : RowsData) → d ≡ relation_value r → rows_of d ≡ Ok r
rows_back d r is = ap rows_of is ∙ (λ i. Ok (record { heading = columns_back r.heading i; tuples = tuple_list_back r.tuples i }))

pub items_back : (ds : List Datum) → item_list (items_of ds) ≡ ds
items_back [] = refl
items_back (d ∷ ds) = ap (λ es. d ∷ es) (items_back ds)

-- ---- what is neither an integer, nor a text, nor a tuple
pub less_other : (d e : Datum) → is_scalar d ≡ false → less d e ≡ of_alike is_proper_subset d e
less_other (boolean b) e h = refl
less_other (integer n) e h = cc
less_other (char s) e h = cc
less_other (user p is) e h = refl
less_other (tuple u) e h = refl
less_other (relation g ts) e h = refl

pub at_most_other : (d e : Datum) → is_scalar d ≡ false → at_most d e ≡ of_alike is_subset d e
at_most_other (boolean b) e h = refl
at_most_other (integer n) e h = cc
at_most_other (char s) e h = cc
at_most_other (user p is) e h = refl
at_most_other (tuple u) e h = refl
at_most_other (relation g ts) e h = refl

-- ---- tests
relation_tested_by : (o : Option Ty) (b : Bool) → IsTrue b ↔ ((fs : _) × (o ≡ Some (relation_type fs))) → b ≡ is_relation_type o
relation_tested_by o true test = let p = test.0 refl in sym (ap is_relation_type p.1)
relation_tested_by None false test = refl
relation_tested_by (Some boolean_type) false test = refl
relation_tested_by (Some integer_type) false test = refl
relation_tested_by (Some char_type) false test = refl
relation_tested_by (Some (user_type n)) false test = refl
relation_tested_by (Some (tuple_type fs)) false test = refl
relation_tested_by (Some (relation_type fs)) false test = test.1 (fs, refl)

pub relation_tested : (c : List ℕ) (h : Header) (b : Bool) → IsTrue b ↔ IsRelationValued c h → b ≡ is_relation_type (by_name.get h c)
relation_tested c h b test = relation_tested_by (by_name.get h c) b test

tuple_tested_by : (o : Option Ty) (b : Bool) → IsTrue b ↔ ((fs : _) × (o ≡ Some (tuple_type fs))) → b ≡ is_tuple_type o
tuple_tested_by o true test = let p = test.0 refl in sym (ap is_tuple_type p.1)
tuple_tested_by None false test = refl
tuple_tested_by (Some boolean_type) false test = refl
tuple_tested_by (Some integer_type) false test = refl
tuple_tested_by (Some char_type) false test = refl
tuple_tested_by (Some (user_type n)) false test = refl
tuple_tested_by (Some (relation_type fs)) false test = refl
tuple_tested_by (Some (tuple_type fs)) false test = test.1 (fs, refl)

pub tuple_tested : (c : List ℕ) (h : Header) (b : Bool) → IsTrue b ↔ IsTupleValued c h → b ≡ is_tuple_type (by_name.get h c)
tuple_tested c h b test = tuple_tested_by (by_name.get h c) b test

-- ---- relations, by their headings and tuples
abbrev rows_or : RowsData → Result RowsData Stop → RowsData
rows_or r (Ok s) = s
rows_or r (Err e) = r

one_rows : (r s : RowsData) → relation_value r ≡ relation_value s → r ≡ s
one_rows r s e = ap (rows_or r) (sym (rows_back (relation_value r) r refl) ∙ rows_back (relation_value r) s e)

pub rows_tested : (v : Datum) (g h : Header) (ts us : List Attrs) (rows r : RowsData) (b : Bool) → v ≡ relation_value rows → g ≡ rows.heading → ts ≡ rows.tuples → h ≡ r.heading → us ≡ r.tuples
    → IsTrue b ↔ ((g ≡ h) × (ts ≡ us)) → IsTrue b ↔ (v ≡ relation_value r)
rows_tested v g h ts us rows r b is p q p2 q2 test = (
  λ t. is ∙ (λ i. relation_value (record { heading = (sym p ∙ (test.0 t).0 ∙ p2) i; tuples = (sym q ∙ (test.0 t).1 ∙ q2) i })),
  λ e.
      let same : rows ≡ r = one_rows rows r (sym is ∙ e) in
      test.1 (p ∙ ap (λ (x : RowsData). x.heading) same ∙ sym p2, q ∙ ap (λ (x : RowsData). x.tuples) same ∙ sym q2),
)
