-- Tests that operators make before they work, as the definitions have them.
use Rattle.std.proofs.Common.{◌≡◌, ◌↔◌, ℕ, Bool, true, false, List, [], ◌∷◌, IsTrue, refl, ap, sym, ◌∙◌}
use Rattle.std.specs.Bool.{Decides}
use Rattle.std.specs.Cmp.{tied_itself}
use Rattle.std.specs.FinMap as by_name
use Rattle.std.specs.Ordering.{eq_by_cmp, is_eq}
use Rattle.std.specs.declared.cmp.Ordering.{Ordering}
use Rattle.std.specs.declared.cmp.Ordering.TheVariants.{Less, Equal, Greater}
use Rattle.td_values.specs.Data.{Ty, Datum, Attrs}
use Rattle.td_values.specs.Headings.{Header, header_fields, header_of}
use Rattle.td_values.specs.Order.{attrs_order, ty_order, order, fields_order}
use Rattle.td_values.specs.Proving.Total.{attrs_tied, attrs_order_total, ty_tied, ty_order_total, fields_tied, tied, order_total}
use Rattle.td_values.proofs.FieldLemmas.{fields_tie_themselves}
use Rattle.td_values.proofs.TupleLemmas.{header_back}
use Rattle.td_values.proofs.Walks.{is_tied}
use Rattle.td_tuples.specs.Parts.{Fits}
use Rattle.td_algebra.specs.Closures.{IsBinary}
use Rattle.td_operators.specs.Operators.{is_pair, are_equal, are_equal_headings, fits}

-- a test of whether two are the same is what their order says
module _ {X : Type 0} (cmp : X → X → Ordering) (tie : (x y : X) → cmp x y ≡ Equal → x ≡ y) (self : (x : X) → cmp x x ≡ Equal) where
  by_order : (x y : X) (o : Ordering) (b : Bool) → cmp x y ≡ o → IsTrue b ↔ (x ≡ y) → b ≡ is_eq o
  by_order x y o true e test = sym (sym (ap is_eq e) ∙ ap (λ z. is_eq (cmp x z)) (sym (test.0 refl)) ∙ ap is_eq (self x))
  by_order x y Equal false e test = test.1 (tie x y e)
  by_order x y Less false e test = refl
  by_order x y Greater false e test = refl

pub same_tested : (d e : Datum) (b : Bool) → IsTrue b ↔ (d ≡ e) → b ≡ are_equal d e
same_tested d e b test = by_order order tied (tied_itself order_total) d e (order d e) b refl test

pub fits_tested : (h : Header) (t : Attrs) (b : Bool) → IsTrue b ↔ Fits h t → b ≡ fits h t
fits_tested h t b test = by_order fields_order fields_tied fields_tie_themselves _ _ _ b refl test

same_header : (g h : Header) → header_fields g ≡ header_fields h → g ≡ h
same_header g h e = sym (header_back g) ∙ ap header_of e ∙ header_back h

pub heading_tested : (g h : Header) (b : Bool) → IsTrue b ↔ (g ≡ h) → b ≡ are_equal_headings g h
heading_tested g h b test = by_order fields_order fields_tied fields_tie_themselves (header_fields g) (header_fields h) _ b refl (
  λ t. ap header_fields (test.0 t),
  λ e. test.1 (same_header g h e),
)

pub tuples_decided : (t u : Attrs) → Decides (eq_by_cmp attrs_order t u) (t ≡ u)
tuples_decided t u = (λ h. attrs_tied t u (is_tied (attrs_order t u) h), λ e. ap (λ v. is_eq (attrs_order t v)) (sym e) ∙ ap is_eq (tied_itself attrs_order_total t))

-- ---- two columns of one type
no_pair_by : (f g : List ℕ × Ty) (o : Ordering) → ty_order f.1 g.1 ≡ o → (f.1 ≡ g.1 → false ≡ true) → false ≡ is_eq o
no_pair_by f g Equal e none = none (ty_tied f.1 g.1 e)
no_pair_by f g Less e none = refl
no_pair_by f g Greater e none = refl

no_pair : (h : Header) (fs : List (List ℕ × Ty)) → by_name.entries h ≡ fs → (IsBinary h → false ≡ true) → false ≡ is_pair fs
no_pair h [] are none = refl
no_pair h (f ∷ []) are none = refl
no_pair h (f ∷ g ∷ []) are none = no_pair_by f g (ty_order f.1 g.1) refl (λ are_equal. none (record {
  first = f.0;
  second = g.0;
  columns = record { ty = f.1; are = are ∙ (λ i. f ∷ (g.0, sym are_equal i) ∷ []) };
}))
no_pair h (f ∷ g ∷ k ∷ fs) are none = refl

pub pair_tested : (h : Header) (b : Bool) → IsTrue b ↔ IsBinary h → b ≡ is_pair (by_name.entries h)
pair_tested h true test = let p = test.0 refl in sym (ap is_pair p.columns.are ∙ ap is_eq (tied_itself ty_order_total p.columns.ty))
pair_tested h false test = no_pair h (by_name.entries h) refl test.1
