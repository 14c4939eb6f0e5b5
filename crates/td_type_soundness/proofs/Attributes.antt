-- The values of a tuple's attributes, and tuples made of others.
use Rattle.std.proofs.Common.{◌≡◌, ℕ, Bool, true, false, if◌then◌else◌, List, [], ◌∷◌, ◌++◌, map, Option, Some, refl, sym, ap, subst, inl, inr}
use Rattle.std.specs.declared.cmp.Ordering.{Ordering}
use Rattle.std.specs.declared.cmp.Ordering.TheVariants.{Less, Equal, Greater}
use Rattle.std.specs.FinMap as by_name
use Rattle.std.specs.FinMap.Entries.{by_order}
use Rattle.std.specs.Ordering.{eq_by_cmp}
use Rattle.td_values.specs.Attributes.{attribute_of}
use Rattle.td_values.specs.Data.{Datum, Attrs, no_attrs, attr, attrs_of}
use Rattle.td_values.specs.Headings.{Header}
use Rattle.td_values.specs.Order.{text_cmp}
use Rattle.td_values.specs.TextOrder.{text_total}
use Rattle.td_values.specs.Whole.{type_of}
use Rattle.td_tuples.specs.Parts.{attributes, where_name}
use Rattle.td_tuples.specs.Renamings.{with_new_name, renamed, renamed_columns}
use Rattle.td_tuples.specs.Unions.{tuple_of, beside, joined, with_attribute, with_column}
use Rattle.td_tuples.proofs.Lists.{entries-from_entries, on_values}
use Rattle.td_tuples.proofs.ByName.{fits-where, fits-beside, fits-with, fits-renamed, fits-tuple_of}
use Rattle.td_algebra.proofs.Lists.{in_append, in_map}
use Rattle.td_schema.specs.Schemas.{SchemaData}
use Rattle.td_type_soundness.specs.Values.{IsValue, AreAttributes}
use Rattle.td_type_soundness.specs.Meanings.{IsTupleOver}
use Rattle.td_type_soundness.proofs.Errors.{Each, with_first}

-- ---- maps of entries: each value is one of theirs
module _ {X : Type 0} (P : X → Type 0) where
  abbrev EachValue : List (List ℕ × X) → Type 0
  EachValue es = Each (λ (e : List ℕ × X). P e.1) es

  placed : (n : List ℕ) (v : X) (e : List ℕ × X) (es puts : List (List ℕ × X)) (o : Ordering) → P v → EachValue (e ∷ es) → EachValue puts → EachValue (by_order o ((n, v) ∷ e ∷ es) ((e.0, v) ∷ es) (e ∷ puts))
  placed n v e es puts Less p each rest = with_first (λ (x : List ℕ × X). P x.1) (n, v) (e ∷ es) p each
  placed n v e es puts Equal p each rest = with_first (λ (x : List ℕ × X). P x.1) (e.0, v) es p (λ x h. each x (inr h))
  placed n v e es puts Greater p each rest = with_first (λ (x : List ℕ × X). P x.1) e puts (each e (inl refl)) rest

  put_values : (n : List ℕ) (v : X) (es : List (List ℕ × X)) → P v → EachValue es → EachValue (by_name.put text_cmp n v es)
  put_values n v [] p each = with_first (λ (x : List ℕ × X). P x.1) (n, v) [] p each
  put_values n v (e ∷ es) p each = placed n v e es (by_name.put text_cmp n v es) (text_cmp n e.0) p each (put_values n v es p (λ x h. each x (inr h)))

  entry_values : (es : List (List ℕ × X)) → EachValue es → EachValue (by_name.entries (by_name.from_entries {R = text_cmp} es))
  entry_values [] each = subst EachValue (sym (entries-from_entries [] tt)) each
  entry_values (e ∷ es) each =
      subst EachValue (sym (by_name.entries-insert text_total (by_name.from_entries es) e.0 e.1))
      (put_values e.0 e.1 (by_name.entries (by_name.from_entries {R = text_cmp} es)) (each e (inl refl)) (entry_values es (λ x h. each x (inr h))))

module _ (s : SchemaData) where
  -- ---- attributes as a list
  abbrev pub AreListed : List (List ℕ × Datum) → Type 0
  AreListed xs = Each (λ (x : List ℕ × Datum). IsValue s x.1) xs

  pub listed : (t : Attrs) → AreAttributes s t → AreListed (attributes t)
  listed no_attrs a x h = absurd h
  listed (attr n d t) a x (inl e) = subst (λ (y : List ℕ × Datum). IsValue s y.1) (sym e) a.0
  listed (attr n d t) a x (inr h) = listed t a.1 x h

  built : (xs : List (List ℕ × Datum)) → AreListed xs → AreAttributes s (attrs_of xs)
  built [] each = tt
  built (x ∷ xs) each = (each x (inl refl), built xs (λ y h. each y (inr h)))

  gathered : (xs : List (List ℕ × Datum)) → AreListed xs → AreAttributes s (tuple_of xs)
  gathered xs each = built (by_name.entries (by_name.from_entries {R = text_cmp} xs)) (entry_values (IsValue s) xs each)

  -- ---- the value at a name
  here_or_further : (b : Bool) (c d : Datum) (o : Option Datum) → IsValue s c → (o ≡ Some d → IsValue s d) → (if b then Some c else o) ≡ Some d → IsValue s d
  here_or_further true c d o v rest e = let same : c ≡ d = cc in subst (IsValue s) same v
  here_or_further false c d o v rest e = rest e

  pub value_at : (n : List ℕ) (t : Attrs) (d : Datum) → AreAttributes s t → attribute_of n t ≡ Some d → IsValue s d
  value_at n no_attrs d a e = absurd (cc)
  value_at n (attr m c t) d a e = here_or_further (eq_by_cmp text_cmp n m) c d (attribute_of n t) a.0 (value_at n t d a.1) e

  -- ---- parts
  kept : (b : Bool) (n : List ℕ) (d : Datum) (t : Attrs) → IsValue s d → AreAttributes s t → AreAttributes s (if b then attr n d t else t)
  kept true n d t v a = (v, a)
  kept false n d t v a = a

  part : (p : List ℕ → Bool) (t : Attrs) → AreAttributes s t → AreAttributes s (where_name p t)
  part p no_attrs a = tt
  part p (attr n d t) a = kept (p n) n d (where_name p t) a.0 (part p t a.1)

  -- ---- tuples of headings
  pub has_part : (p : List ℕ → Bool) (h : Header) (t : Attrs) → IsTupleOver s h t → IsTupleOver s (by_name.retain_keys h p) (where_name p t)
  has_part p h t has = (fits-where p h t has.0, part p t has.1)

  pub has_beside : (h k : Header) (t u : Attrs) → IsTupleOver s h t → IsTupleOver s k u → IsTupleOver s (joined h k) (beside t u)
  has_beside h k t u has have = (
    fits-beside h k t u has.0 have.0,
    gathered (attributes t ++ attributes u) (λ x m. elim (in_append (attributes t) (attributes u) x m) [ inl a ↦ listed t has.1 x a | inr b ↦ listed u have.1 x b ]),
  )

  pub has_with : (n : List ℕ) (d : Datum) (h : Header) (t : Attrs) → IsValue s d → IsTupleOver s h t → IsTupleOver s (with_column n (type_of d) h) (with_attribute n d t)
  has_with n d h t v has = (
    fits-with n d h t has.0,
    gathered ((n, d) ∷ attributes t) (with_first (λ (x : List ℕ × Datum). IsValue s x.1) (n, d) (attributes t) v (listed t has.1)),
  )

  pub has_renamed : (items : List (List ℕ × List ℕ)) (h : Header) (t : Attrs) → IsTupleOver s h t → IsTupleOver s (renamed_columns items h) (renamed items t)
  has_renamed items h t has = (
    fits-renamed items h t has.0,
    gathered (map (with_new_name items) (attributes t)) (λ x m.
        let i = in_map (with_new_name items) (attributes t) x m in
        subst (IsValue s) (sym (ap (λ (y : List ℕ × Datum). y.1) i.2)) (listed t has.1 i.0 i.1)),
  )

  pub has_fields : (xs : List (List ℕ × Datum)) → AreListed xs → IsTupleOver s (by_name.from_entries (on_values type_of xs)) (tuple_of xs)
  has_fields xs each = (fits-tuple_of xs, gathered xs each)
