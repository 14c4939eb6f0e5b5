-- Tuples and headings by name: for the crates above.
use Rattle.std.proofs.Common.{◌≡◌, ◌↔◌, ℕ, Bool, IsTrue, cond, List, [], ◌∷◌, map, Some, refl, sym, ap, ◌∙◌}
use Rattle.std.specs.declared.cmp.Ordering.{Ordering}
use Rattle.std.specs.declared.cmp.Ordering.TheVariants.{Less, Equal, Greater}
use Rattle.std.specs.Cmp.{tied_itself}
use Rattle.std.specs.FinMap as by_name
use Rattle.std.specs.Ordering.{is_eq}
use Rattle.std.proofs.lemmas.Map.Lookups.{exact_bytes}
use Rattle.td_values.specs.Attributes.{AttributeMap, attribute_of}
use Rattle.td_values.specs.Data.{Ty, field, Datum, Attrs, attr, attrs_of, fields_of}
use Rattle.td_values.specs.Headings.{Header, field_list, header_fields, header_of}
use Rattle.td_values.specs.Order.{text_cmp}
use Rattle.td_values.specs.TextOrder.{text_total}
use Rattle.td_values.specs.Whole.{type_of, heading_of}
use Rattle.td_values.proofs.Entries.{attribute_found}

pub attribute_here : (n : List ℕ) (d : Datum) (t : Attrs) → attribute_of n (attr n d t) ≡ Some d
attribute_here n d t = ap (λ r. cond (is_eq r) (Some d) (attribute_of n t)) (tied_itself text_total n)

untied : (o : Ordering) {A : Type 0} (x y : A) → (o ≡ Equal → ⊥) → cond (is_eq o) x y ≡ y
untied Less x y h = refl
untied Equal x y h = absurd (h refl)
untied Greater x y h = refl

pub attribute_past : (n m : List ℕ) (d : Datum) (t : Attrs) → (n ≡ m → ⊥) → attribute_of n (attr m d t) ≡ attribute_of n t
attribute_past n m d t h = untied (text_cmp n m) (Some d) (attribute_of n t) (λ e. h (exact_bytes n m e))

-- an attribute of the tuple that is built of a map
pub attribute_built : (m : AttributeMap) (n : List ℕ) → attribute_of n (attrs_of (by_name.entries m)) ≡ by_name.get m n
attribute_built m n = sym (by_name.get-entries m n ∙ attribute_found n (by_name.entries m))

-- a tuple's heading, entry by entry
pub heading_listed : (xs : List (List ℕ × Datum)) → heading_of (attrs_of xs) ≡ fields_of (map (λ x. (x.0, type_of x.1)) xs)
heading_listed [] = refl
heading_listed (x ∷ xs) = ap (field x.0 (type_of x.1)) (heading_listed xs)

-- the list that stands for fields, and for attributes, is the only one
pub fields_listed : (xs ys : List (List ℕ × Ty)) → fields_of xs ≡ fields_of ys → xs ≡ ys
fields_listed [] [] e = refl
fields_listed [] (y ∷ ys) e = cc
fields_listed (x ∷ xs) [] e = cc
fields_listed (x ∷ xs) (y ∷ ys) e =
    let name : x.0 ≡ y.0 = cc in
    let ty : x.1 ≡ y.1 = cc in
    let rest : fields_of xs ≡ fields_of ys = cc in
    λ i. (name i, ty i) ∷ fields_listed xs ys rest i

pub attrs_listed : (xs ys : List (List ℕ × Datum)) → attrs_of xs ≡ attrs_of ys → xs ≡ ys
attrs_listed [] [] e = refl
attrs_listed [] (y ∷ ys) e = cc
attrs_listed (x ∷ xs) [] e = cc
attrs_listed (x ∷ xs) (y ∷ ys) e =
    let name : x.0 ≡ y.0 = cc in
    let value : x.1 ≡ y.1 = cc in
    let rest : attrs_of xs ≡ attrs_of ys = cc in
    λ i. (name i, value i) ∷ attrs_listed xs ys rest i

-- headings with the same fields are one heading
pub same_header : (g h : Header) → header_fields g ≡ header_fields h → g ≡ h
same_header g h e = by_name.same_entries_map g h (fields_listed (by_name.entries g) (by_name.entries h) e)

-- two headings are equal where their fields are
pub one_heading : (g h : Header) (b : Bool) → IsTrue b ↔ (header_fields g ≡ header_fields h) → IsTrue b ↔ (g ≡ h)
one_heading g h b e = (λ t. same_header g h (e.0 t), λ same. e.1 (ap header_fields same))

fields_back : (xs : List (List ℕ × Ty)) → field_list (fields_of xs) ≡ xs
fields_back [] = refl
fields_back (x ∷ xs) = ap (λ ys. x ∷ ys) (fields_back xs)

-- a heading is the one with its fields
pub header_back : (h : Header) → header_of (header_fields h) ≡ h
header_back h =
    let es = by_name.entries h in
    ap (λ xs. by_name.from_entries {R = text_cmp} xs) (fields_back es)
    ∙ by_name.same_map text_total exact_bytes (by_name.from_entries es) h (λ q. by_name.get-from_entries text_total es q ∙ sym (by_name.get-entries h q))
