-- Whether a tuple has a heading, field by field.
use Rattle.std.proofs.Common.{◌≡◌, ℕ, zero, suc, ◌+◌, ◌<◌, ◌≤◌, ◌↔◌, Bool, true, false, not, IsTrue, List, [], ◌∷◌, length, drop, get_or, eqb, refl, sym, ap, ◌∙◌, arith, drop-cons, add-one}
use Rattle.std.specs.declared.cmp.Ordering.{Ordering}
use Rattle.std.specs.declared.cmp.Ordering.TheVariants.{Less, Equal, Greater}
use Rattle.std.specs.Ordering.{eq_by_cmp, is_eq, ordering_reverse}
use Rattle.std.specs.Cmp.{tied_itself}
use Rattle.std.proofs.lemmas.Bool.Decides.{Decides-eqb}
use Rattle.std.proofs.lemmas.Map.Lookups.{exact_bytes}
use Rattle.td_values.specs.Data.{Ty, user_type, relation_type, Fields, field, PossrepData, Datum, user, relation, Items, Attrs, Tuples, attrs_of, fields_of}
use Rattle.td_values.specs.Order.{text_cmp, fields_order, possrep_order}
use Rattle.td_values.specs.TextOrder.{text_total}
use Rattle.td_values.specs.Proving.Total.{fields_antisymm, fields_tied, possrep_antisymm}
use Rattle.td_values.specs.Whole.{type_of, heading_of}
use Rattle.td_values.proofs.Walks.{is_tied}

pub same_name : (m n : List ℕ) (b : Bool) → b ≡ eq_by_cmp text_cmp m n → IsTrue b ↔ (m ≡ n)
same_name m n b e = (λ t. exact_bytes m n (is_tied (text_cmp m n) (sym e ∙ t)), λ same. e ∙ ap is_eq (ap (text_cmp m) (sym same) ∙ tied_itself text_total m))

own_turn : (o : Ordering) → o ≡ ordering_reverse o → o ≡ Equal
own_turn Less e = cc
own_turn Equal e = refl
own_turn Greater e = cc

pub fields_tie_themselves : (fs : Fields) → fields_order fs fs ≡ Equal
fields_tie_themselves fs = own_turn _ (fields_antisymm fs fs)

pub possrep_ties_itself : (p : PossrepData) → possrep_order p p ≡ Equal
possrep_ties_itself p = own_turn _ (possrep_antisymm p p)

pub same_fields : (fs gs : Fields) (o : Ordering) (b : Bool) → o ≡ fields_order fs gs → b ≡ is_eq o → IsTrue b ↔ (fs ≡ gs)
same_fields fs gs o b e test = (
  λ t. fields_tied fs gs (sym e ∙ is_tied o (sym test ∙ t)),
  λ same. test ∙ ap is_eq (e ∙ ap (fields_order fs) (sym same) ∙ fields_tie_themselves fs),
)

pub user_typed : (v : Datum) (t : Ty) (p : PossrepData) (n : List ℕ) (is : Items) (b : Bool) → v ≡ user p is → t ≡ user_type n → b ≡ eq_by_cmp text_cmp p.ty n → IsTrue b ↔ (type_of v ≡ t)
user_typed v t p n is b value ty e =
    let same = same_name p.ty n b e in (
      λ h. ap type_of value ∙ ap user_type (same.0 h) ∙ sym ty,
      λ r. same.1 (let names : user_type p.ty ≡ user_type n = sym (ap type_of value) ∙ r ∙ ty in cc),
    )

pub relation_typed : (v : Datum) (t : Ty) (fs gs : Fields) (ts : Tuples) (o : Ordering) (b : Bool) → v ≡ relation fs ts → t ≡ relation_type gs → o ≡ fields_order fs gs → b ≡ is_eq o → IsTrue b ↔ (type_of v ≡ t)
relation_typed v t fs gs ts o b value ty e test =
    let same = same_fields fs gs o b e test in (
      λ h. ap type_of value ∙ ap relation_type (same.0 h) ∙ sym ty,
      λ r. same.1 (let headings : relation_type fs ≡ relation_type gs = sym (ap type_of value) ∙ r ∙ ty in cc),
    )

-- the fields from i on
abbrev pub Rest : List (List ℕ × Datum) → List (List ℕ × Ty) → ℕ → Type 0
Rest xs fs i = heading_of (attrs_of (drop i xs)) ≡ fields_of (drop i fs)

module _ (xs : List (List ℕ × Datum)) (fs : List (List ℕ × Ty)) (i : ℕ) (x : List ℕ × Datum) (f : List ℕ × Ty) (p : i < length xs) (q : i < length fs) (at_x : x ≡ get_or xs i x) (at_f : f ≡ get_or fs i f) where
  values_from : drop i xs ≡ x ∷ drop (i + 1) xs
  values_from = rw add-one (drop-cons xs i x p ∙ ap (λ w. w ∷ drop (suc i) xs) (sym at_x))

  fields_from : drop i fs ≡ f ∷ drop (i + 1) fs
  fields_from = rw add-one (drop-cons fs i f q ∙ ap (λ w. w ∷ drop (suc i) fs) (sym at_f))

  opened : Rest xs fs i → field x.0 (type_of x.1) (heading_of (attrs_of (drop (i + 1) xs))) ≡ field f.0 f.1 (fields_of (drop (i + 1) fs))
  opened r = sym (ap (λ l. heading_of (attrs_of l)) values_from) ∙ r ∙ ap fields_of fields_from

  pub advances : x.0 ≡ f.0 → type_of x.1 ≡ f.1 → Rest xs fs i ↔ Rest xs fs (i + 1)
  advances name ty = (
    λ r. let both = opened r in cc,
    λ r. ap (λ l. heading_of (attrs_of l)) values_from ∙ (λ k. field (name k) (ty k) (r k)) ∙ sym (ap fields_of fields_from),
  )

  pub name_differs : (x.0 ≡ f.0 → ⊥) → Rest xs fs i → ⊥
  name_differs h r = h (let both = opened r in cc)

  pub type_differs : (type_of x.1 ≡ f.1 → ⊥) → Rest xs fs i → ⊥
  type_differs h r = h (let both = opened r in cc)

pub ended : (xs : List (List ℕ × Datum)) (fs : List (List ℕ × Ty)) (i : ℕ) → i ≤ length xs → i ≤ length fs → (i < length xs → i < length fs → ⊥) → (length xs ≡ length fs) ↔ Rest xs fs i
ended [] [] zero p q h = (λ _. refl, λ _. refl)
ended [] (f ∷ fs) zero p q h = (λ e. absurd (omega arith), λ r. cc)
ended (x ∷ xs) [] zero p q h = (λ e. absurd (omega arith), λ r. cc)
ended (x ∷ xs) (f ∷ fs) zero p q h = absurd (h (omega arith) (omega arith))
ended [] fs (suc i) p q h = absurd (omega arith)
ended (x ∷ xs) [] (suc i) p q h = absurd (omega arith)
ended (x ∷ xs) (f ∷ fs) (suc i) p q h =
    let w = ended xs fs i (omega arith) (omega arith) (λ a b. h (omega arith) (omega arith)) in
    (λ e. w.0 (omega arith), λ r. ap suc (w.1 r))

pub lengths_tested : (m n : ℕ) (P : Type 0) → (m ≡ n) ↔ P → IsTrue (eqb m n) ↔ P
lengths_tested m n P h = (λ t. h.0 ((Decides-eqb m n).0 t), λ x. (Decides-eqb m n).1 (h.1 x))

pub and_then : {P Q R : Type 0} → (P ↔ Q) → (Q ↔ R) → (P ↔ R)
and_then f g = (λ p. g.0 (f.0 p), λ r. f.1 (g.1 r))

-- the same of a tuple and a heading that are seen through their fields
pub fit_seen : (b : Bool) {t u : Attrs} {fs gs : List (List ℕ × Ty)} → t ≡ u → fs ≡ gs → IsTrue b ↔ (heading_of t ≡ fields_of fs) → IsTrue b ↔ (heading_of u ≡ fields_of gs)
fit_seen b e f h = (λ x. ap heading_of (sym e) ∙ h.0 x ∙ ap fields_of f, λ r. h.1 (ap heading_of e ∙ r ∙ sym (ap fields_of f)))

pub is_not : (b c : Bool) → b ≡ not c → b ≡ false → c ≡ true
is_not b true e f = refl
is_not b false e f = let differ : true ≡ false = sym e ∙ f in cc

pub is_not_true : (b c : Bool) → b ≡ not c → b ≡ true → c ≡ true → ⊥
is_not_true b true e f h = let differ : true ≡ false = sym f ∙ e in cc
is_not_true b false e f h = cc
