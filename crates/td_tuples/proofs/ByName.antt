-- Tuples by name: what stands at each name, and which headings they fit.
use Rattle.std.proofs.Common.{◌≡◌, ℕ, Bool, true, false, T, cond, List, [], ◌∷◌, ◌++◌, map, Option, None, Some, is_some, refl, sym, ap, ◌∙◌, subst}
use Rattle.std.specs.FinMap as by_name
use Rattle.std.specs.FinMap.Entries.{where_key, is_sorted-where_key, same_entries}
use Rattle.std.specs.Option.{option_map}
use Rattle.std.specs.Ordering.{eq_by_cmp}
use Rattle.td_values.specs.Attributes.{attribute_of}
use Rattle.td_values.specs.Data.{Ty, fields_of, Datum, Attrs, no_attrs, attr, attrs_of}
use Rattle.td_values.specs.Headings.{Header}
use Rattle.td_values.specs.Order.{text_cmp}
use Rattle.td_values.specs.TextOrder.{text_total}
use Rattle.td_values.specs.Whole.{type_of, heading_of, NamesAscend}
use Rattle.td_values.proofs.Entries.{ascend_sorted, attribute_found}
use Rattle.td_values.proofs.TupleLemmas.{attribute_built, heading_listed, fields_listed}
use Rattle.td_tuples.specs.Parts.{attributes, names_of, Fits, is_in, where_name, cut}
use Rattle.td_tuples.specs.Unions.{tuple_of, beside, joined, with_attribute, with_column}
use Rattle.td_tuples.specs.Renamings.{name_after, with_new_name, renamed, renamed_columns}
use Rattle.td_tuples.proofs.Lists.{same_name, or_else, find-append, find-where, find_values, find-values, from_entries-entries, entries-retain, in_keys, on_values, sorted_values, values_append, values_where, values_from_entries}

-- ---- a tuple and its list
pub attributes_attrs : (xs : List (List ℕ × Datum)) → attributes (attrs_of xs) ≡ xs
attributes_attrs [] = refl
attributes_attrs (x ∷ xs) = ap (λ r. x ∷ r) (attributes_attrs xs)

pub attrs_attributes : (t : Attrs) → attrs_of (attributes t) ≡ t
attrs_attributes no_attrs = refl
attrs_attributes (attr n d t) = ap (attr n d) (attrs_attributes t)

-- a list that is read from a tuple is the tuple's
pub attributes_read : (xs : List (List ℕ × Datum)) (t : Attrs) → attrs_of xs ≡ t → xs ≡ attributes t
attributes_read xs t e = sym (attributes_attrs xs) ∙ ap attributes e

pub attribute-find : (n : List ℕ) (t : Attrs) → attribute_of n t ≡ by_name.find text_cmp n (attributes t)
attribute-find n t = ap (attribute_of n) (sym (attrs_attributes t)) ∙ sym (attribute_found n (attributes t))

abbrev pub IsSorted : Attrs → Type 0
IsSorted t = T (by_name.is_sorted text_cmp (attributes t))

pub ascend_is_sorted : (t : Attrs) → NamesAscend t → IsSorted t
ascend_is_sorted t a = ascend_sorted (attributes t) (subst NamesAscend (sym (attrs_attributes t)) a)

-- tuples with the same value at each name are one tuple
pub same_tuple : (t u : Attrs) → IsSorted t → IsSorted u → ((n : List ℕ) → attribute_of n t ≡ attribute_of n u) → t ≡ u
same_tuple t u s r h =
    sym (attrs_attributes t)
    ∙ ap attrs_of (same_entries text_cmp text_total same_name (attributes t) (attributes u) s r (λ n. sym (attribute-find n t) ∙ h n ∙ attribute-find n u))
    ∙ attrs_attributes u

-- ---- tuples that fit a heading
pub heading-typed : (t : Attrs) → heading_of t ≡ fields_of (on_values type_of (attributes t))
heading-typed t = ap heading_of (sym (attrs_attributes t)) ∙ heading_listed (attributes t)

pub fits_typed : (h : Header) (t : Attrs) → Fits h t → on_values type_of (attributes t) ≡ by_name.entries h
fits_typed h t f = fields_listed _ _ (sym (heading-typed t) ∙ f)

pub typed_fits : (h : Header) (t : Attrs) → on_values type_of (attributes t) ≡ by_name.entries h → Fits h t
typed_fits h t e = heading-typed t ∙ ap fields_of e

pub fits_sorted : (h : Header) (t : Attrs) → Fits h t → IsSorted t
fits_sorted h t f = subst T (sym (ap (by_name.is_sorted text_cmp) (fits_typed h t f)) ∙ sorted_values type_of (attributes t)) (by_name.entries_sorted h)

-- the heading has the type of the tuple's value
pub fits_get : (h : Header) (t : Attrs) → Fits h t → (n : List ℕ) → by_name.get h n ≡ option_map type_of (attribute_of n t)
fits_get h t f n =
    by_name.get-entries h n ∙ ap (by_name.find text_cmp n) (sym (fits_typed h t f)) ∙ find-values type_of n (attributes t)
    ∙ ap (option_map type_of) (sym (attribute-find n t))

-- a tuple has a value where the heading has a type
pub fits_here : (h : Header) (t : Attrs) → Fits h t → (n : List ℕ) → is_some (attribute_of n t) ≡ is_some (by_name.get h n)
fits_here h t f n =
    ap is_some (attribute-find n t) ∙ sym (find_values type_of n (attributes t))
    ∙ ap (λ xs. is_some (by_name.find text_cmp n xs)) (fits_typed h t f)
    ∙ ap is_some (sym (by_name.get-entries h n))

pub fits_named : (h : Header) (t : Attrs) → Fits h t → (n : List ℕ) → is_in (names_of h) n ≡ is_some (attribute_of n t)
fits_named h t f n = in_keys h n ∙ sym (fits_here h t f n)

-- ---- parts
pub attributes-where : (p : List ℕ → Bool) (t : Attrs) → attributes (where_name p t) ≡ where_key text_cmp p (attributes t)
attributes-where p no_attrs = refl
attributes-where p (attr n d t) = elim (p n) as (λ b. attributes (cond b (attr n d (where_name p t)) (where_name p t)) ≡ cond b ((n, d) ∷ where_key text_cmp p (attributes t)) (where_key text_cmp p (attributes t))) [
  | true ↦ ap (λ r. (n, d) ∷ r) (attributes-where p t)
  | false ↦ attributes-where p t
]

pub attribute-where : (p : List ℕ → Bool) (t : Attrs) (n : List ℕ) → attribute_of n (where_name p t) ≡ cond (p n) (attribute_of n t) None
attribute-where p t n =
    attribute-find n (where_name p t) ∙ ap (by_name.find text_cmp n) (attributes-where p t) ∙ find-where p (attributes t) n
    ∙ ap (λ o. cond (p n) o None) (sym (attribute-find n t))

pub sorted-where : (p : List ℕ → Bool) (t : Attrs) → IsSorted t → IsSorted (where_name p t)
sorted-where p t s = subst (λ xs. T (by_name.is_sorted text_cmp xs)) (sym (attributes-where p t)) (is_sorted-where_key text_cmp p (attributes t) s)

pub fits-where : (p : List ℕ → Bool) (h : Header) (t : Attrs) → Fits h t → Fits (by_name.retain_keys h p) (where_name p t)
fits-where p h t f = typed_fits (by_name.retain_keys h p) (where_name p t)
    (ap (on_values type_of) (attributes-where p t) ∙ values_where type_of p (attributes t) ∙ ap (where_key text_cmp p) (fits_typed h t f) ∙ sym (entries-retain h p))

-- tests that agree on the tuple's names give one part
pub same_part : (p q : List ℕ → Bool) (t : Attrs) → IsSorted t → ((n : List ℕ) → is_some (attribute_of n t) ≡ true → p n ≡ q n) → where_name p t ≡ where_name q t
same_part p q t s h = same_tuple _ _ (sorted-where p t s) (sorted-where q t s) (λ n. attribute-where p t n ∙ at n (attribute_of n t) refl ∙ sym (attribute-where q t n))
  where
    either : (b : Bool) (o : Option Datum) → cond b o o ≡ o
    either true o = refl
    either false o = refl

    at : (n : List ℕ) (o : Option Datum) → attribute_of n t ≡ o → cond (p n) (attribute_of n t) None ≡ cond (q n) (attribute_of n t) None
    at n None e = ap (λ w. cond (p n) w None) e ∙ either (p n) None ∙ sym (either (q n) None) ∙ ap (λ w. cond (q n) w None) (sym e)
    at n (Some d) e = ap (λ b. cond b (attribute_of n t) None) (h n (ap is_some e))

-- the part at the names of a heading's part is that part
pub part_by_columns : (p : List ℕ → Bool) (h : Header) (t : Attrs) → Fits h t → cut (names_of (by_name.retain_keys h p)) t ≡ where_name p t
part_by_columns p h t f = same_part _ p t (fits_sorted h t f) (λ n here.
    in_keys (by_name.retain_keys h p) n ∙ ap is_some (get_part n)
    ∙ passes (p n) (by_name.get h n) (sym (fits_here h t f n) ∙ here))
  where
    get_part : (n : List ℕ) → by_name.get (by_name.retain_keys h p) n ≡ cond (p n) (by_name.get h n) None
    get_part n = by_name.get-retain_keys h p n (λ x e. ap p (sym (same_name n x e)))

    passes : (b : Bool) (o : Option Ty) → is_some o ≡ true → is_some (cond b o None) ≡ b
    passes true o e = e
    passes false o e = refl

-- the whole is the part at all its names
pub whole_part : (h : Header) (t : Attrs) → Fits h t → cut (names_of h) t ≡ t
whole_part h t f = same_tuple _ t (sorted-where _ t (fits_sorted h t f)) (fits_sorted h t f) (λ n.
    attribute-where (is_in (names_of h)) t n ∙ ap (λ b. cond b (attribute_of n t) None) (fits_named h t f n) ∙ held (attribute_of n t))
  where
    held : (o : Option Datum) → cond (is_some o) o None ≡ o
    held None = refl
    held (Some d) = refl

-- parts of parts
pub parts_swap : (p q : List ℕ → Bool) (t : Attrs) → IsSorted t → where_name p (where_name q t) ≡ where_name q (where_name p t)
parts_swap p q t s = same_tuple _ _ (sorted-where p _ (sorted-where q t s)) (sorted-where q _ (sorted-where p t s)) (λ n.
    attribute-where p (where_name q t) n ∙ ap (λ o. cond (p n) o None) (attribute-where q t n)
    ∙ swapped (p n) (q n) (attribute_of n t)
    ∙ ap (λ o. cond (q n) o None) (sym (attribute-where p t n)) ∙ sym (attribute-where q (where_name p t) n))
  where
    swapped : (a b : Bool) (o : Option Datum) → cond a (cond b o None) None ≡ cond b (cond a o None) None
    swapped true true o = refl
    swapped true false o = refl
    swapped false true o = refl
    swapped false false o = refl

-- ---- tuples of lists of attributes
pub attributes-tuple_of : (xs : List (List ℕ × Datum)) → attributes (tuple_of xs) ≡ by_name.entries (by_name.from_entries {R = text_cmp} xs)
attributes-tuple_of xs = attributes_attrs _

pub sorted-tuple_of : (xs : List (List ℕ × Datum)) → IsSorted (tuple_of xs)
sorted-tuple_of xs = subst (λ ys. T (by_name.is_sorted text_cmp ys)) (sym (attributes-tuple_of xs)) (by_name.entries_sorted (by_name.from_entries xs))

pub attribute-tuple_of : (xs : List (List ℕ × Datum)) (n : List ℕ) → attribute_of n (tuple_of xs) ≡ by_name.find text_cmp n xs
attribute-tuple_of xs n = attribute_built (by_name.from_entries xs) n ∙ by_name.get-from_entries text_total xs n

pub fits-tuple_of : (xs : List (List ℕ × Datum)) → Fits (by_name.from_entries (on_values type_of xs)) (tuple_of xs)
fits-tuple_of xs = typed_fits _ (tuple_of xs) (ap (on_values type_of) (attributes-tuple_of xs) ∙ values_from_entries type_of xs)

-- ---- unions
pub attribute-beside : (t u : Attrs) (n : List ℕ) → attribute_of n (beside t u) ≡ or_else (attribute_of n t) (attribute_of n u)
attribute-beside t u n =
    attribute-tuple_of (attributes t ++ attributes u) n ∙ find-append (attributes t) (attributes u) n
    ∙ sym (λ i. or_else (attribute-find n t i) (attribute-find n u i))

pub fits-beside : (h k : Header) (t u : Attrs) → Fits h t → Fits k u → Fits (joined h k) (beside t u)
fits-beside h k t u f g = subst (λ w. Fits w (beside t u))
    (ap by_name.from_entries (values_append type_of (attributes t) (attributes u) ∙ (λ i. fits_typed h t f i ++ fits_typed k u g i)))
    (fits-tuple_of (attributes t ++ attributes u))

pub attribute-with : (m : List ℕ) (d : Datum) (t : Attrs) (n : List ℕ) → attribute_of n (with_attribute m d t) ≡ cond (eq_by_cmp text_cmp n m) (Some d) (attribute_of n t)
attribute-with m d t n = attribute-tuple_of ((m, d) ∷ attributes t) n ∙ ap (cond (eq_by_cmp text_cmp n m) (Some d)) (sym (attribute-find n t))

pub fits-with : (m : List ℕ) (d : Datum) (h : Header) (t : Attrs) → Fits h t → Fits (with_column m (type_of d) h) (with_attribute m d t)
fits-with m d h t f = subst (λ w. Fits w (with_attribute m d t))
    (ap (λ es. by_name.insert (by_name.from_entries es) m (type_of d)) (fits_typed h t f) ∙ ap (λ w. by_name.insert w m (type_of d)) (from_entries-entries h))
    (fits-tuple_of ((m, d) ∷ attributes t))

-- ---- renamings
pub fits-renamed : (items : List (List ℕ × List ℕ)) (h : Header) (t : Attrs) → Fits h t → Fits (renamed_columns items h) (renamed items t)
fits-renamed items h t f = subst (λ w. Fits w (renamed items t))
    (ap by_name.from_entries (swapped (attributes t) ∙ ap (map (with_new_name items)) (fits_typed h t f)))
    (fits-tuple_of (map (with_new_name items) (attributes t)))
  where
    swapped : (xs : List (List ℕ × Datum)) → on_values type_of (map (with_new_name items) xs) ≡ map (with_new_name items) (on_values type_of xs)
    swapped [] = refl
    swapped (x ∷ xs) = ap (λ r. (name_after items x.0, type_of x.1) ∷ r) (swapped xs)
