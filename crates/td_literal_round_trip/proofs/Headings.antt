-- Headings as literals write them.
use Rattle.std.proofs.Common.{◌≡◌, Bool, true, false, not, ◌&&◌, T, List, [], ◌∷◌, map, Some, Option, refl, sym, ap, ◌∙◌, subst}
use Rattle.std.specs.FinMap as by_name
use Rattle.std.specs.FinMap.Entries.{below_all}
use Rattle.std.specs.Ordering.{is_lt}
use Rattle.td_values.specs.Data.{Ty, boolean_type, integer_type, char_type, user_type, tuple_type, relation_type, Fields, no_fields, field, fields_of}
use Rattle.td_values.specs.Headings.{field_list, header_fields, header_of}
use Rattle.td_values.specs.Order.{text_cmp}
use Rattle.td_values.specs.View.{ty_of}
use Rattle.td_values.specs.declared.TypeKind.{TypeKind}
use Rattle.td_values.specs.declared.TypeKind.TheVariants as kind
use Rattle.td_values.proofs.Entries.{first, second, less}
use Rattle.td_values.proofs.TupleLemmas.{header_back}
use Rattle.td_syntax.specs.declared.tree.Named.{Named}
use Rattle.td_syntax.specs.declared.tree.TypeExpr.TheVariants as t
use Rattle.td_syntax.specs.declared.tree.TypeExpr.TheOpen.{TypeExpr-F}
use Rattle.td_syntax.specs.declared.tree.TypeExpr.TheFolds.{fold-roll-TypeExpr}
use Rattle.td_tuples.specs.Parts.{is_in}
use Rattle.td_tuples.proofs.Lists.{keys_of}
use Rattle.td_schema.specs.Kinds.{Name, kind_of}
use Rattle.td_schema.specs.Lists.{are_distinct}
use Rattle.td_schema.specs.Results.{where_true, where_some}
use Rattle.td_schema.specs.Schemas.{SchemaData}
use Rattle.td_schema.specs.Written.{all_named, names, kind_column, kind_columns, distinct_columns, written, written_step, heading_written}
use Rattle.td_schema.proofs.Writings as writings
use Rattle.td_type_soundness.specs.Values.{AreColumns}
use Rattle.td_literal_round_trip.specs.Literals.{IsDefined, AreDefined}
use Rattle.td_literal_round_trip.proofs.Trees.{type_tree, field_trees}

-- ---- names in order are distinct
both_true : (a b : Bool) → a ≡ true → b ≡ true → (a && b) ≡ true
both_true a b p q = λ i. p i && q i

module _ {X : Type 0} where
  none_is : (n : Name) (es : List (Name × X)) → T (below_all text_cmp n es) → is_in (keys_of es) n ≡ false
  none_is n [] below = refl
  none_is n (e ∷ es) below = rw (less (text_cmp n e.0) (first (is_lt (text_cmp n e.0)) (below_all text_cmp n es) below)) (none_is n es (second (is_lt (text_cmp n e.0)) (below_all text_cmp n es) below))

  pub sorted_distinct : (es : List (Name × X)) → T (by_name.is_sorted text_cmp es) → are_distinct (keys_of es) ≡ true
  sorted_distinct [] s = refl
  sorted_distinct (e ∷ es) s = both_true _ _ (ap not (none_is e.0 es (first _ _ s))) (sorted_distinct es (second _ _ s))

-- ---- fields of a heading
pub fields_back : (fs : Fields) → AreColumns fs → header_fields (header_of fs) ≡ fs
fields_back fs are = ap (λ gs. header_fields (header_of gs)) are.1 ∙ ap header_fields (header_back are.0) ∙ sym are.1

fields_listed : (xs : List (Name × Ty)) → field_list (fields_of xs) ≡ xs
fields_listed [] = refl
fields_listed (x ∷ xs) = ap (λ ys. x ∷ ys) (fields_listed xs)

fields_sorted : (fs : Fields) → AreColumns fs → T (by_name.is_sorted text_cmp (field_list fs))
fields_sorted fs are =
    subst (λ es. T (by_name.is_sorted text_cmp es)) (sym (ap field_list are.1 ∙ fields_listed (by_name.entries are.0))) (by_name.entries_sorted are.0)

-- ---- the kind of a written type
abbrev pub field_kinds : Fields → List (Named TypeKind)
field_kinds no_fields = []
field_kinds (field n ty fs) = record { name = n; value = kind_of ty } ∷ field_kinds fs

kinds_named : (fs : Fields) → names (field_kinds fs) ≡ keys_of (field_list fs)
kinds_named no_fields = refl
kinds_named (field n ty fs) = ap (λ ns. n ∷ ns) (kinds_named fs)

module _ (s : SchemaData) where
  -- a defined type is that of its kind
  ty_back : (ty : Ty) → IsDefined s ty → ty_of (kind_of ty) ≡ ty
  ty_back boolean_type is = refl
  ty_back integer_type is = refl
  ty_back char_type is = refl
  ty_back (user_type n) is = refl
  ty_back (tuple_type fs) is = ap tuple_type (fields_back fs is.0)
  ty_back (relation_type fs) is = ap relation_type (fields_back fs is.0)

  columns_listed : (fs : Fields) → AreDefined s fs → map kind_column (field_kinds fs) ≡ field_list fs
  columns_listed no_fields are = refl
  columns_listed (field n ty fs) are = λ i. (n, ty_back ty are.1 i) ∷ columns_listed fs are.2 i

  columns_are : (fs : Fields) → AreColumns fs → AreDefined s fs → distinct_columns (field_kinds fs) ≡ Some (header_of fs)
  columns_are fs cs are =
      ap (λ b. where_true b (kind_columns (field_kinds fs))) (ap are_distinct (kinds_named fs) ∙ sorted_distinct (field_list fs) (fields_sorted fs cs))
      ∙ ap (λ es. Some (by_name.from_entries {R = text_cmp} es)) (columns_listed fs are)

  heading_of_kinds : (fs : Fields) → AreColumns fs → AreDefined s fs → all_named (written s) (field_trees fs) ≡ Some (field_kinds fs) → heading_written s (field_trees fs) ≡ Some (header_of fs)
  unfolding heading_written
  heading_of_kinds fs cs are e = ap (λ o. where_some o distinct_columns) e ∙ columns_are fs cs are

  mutual
    written_back : (ty : Ty) → IsDefined s ty → written s (type_tree ty) ≡ Some (kind_of ty)
    written_back boolean_type is = ap (written s) (sym t.rolls-Boolean) ∙ fold-roll-TypeExpr (Option TypeKind) (written_step s) TypeExpr-F.Boolean
    written_back integer_type is = ap (written s) (sym t.rolls-Integer) ∙ fold-roll-TypeExpr (Option TypeKind) (written_step s) TypeExpr-F.Integer
    written_back char_type is = ap (written s) (sym t.rolls-Char) ∙ fold-roll-TypeExpr (Option TypeKind) (written_step s) TypeExpr-F.Char
    written_back (user_type n) is =
        ap (written s) (sym (t.rolls-User n)) ∙ fold-roll-TypeExpr (Option TypeKind) (written_step s) (TypeExpr-F.User n)
        ∙ ap (λ b. where_true b (kind.User n)) is.1
    written_back (tuple_type fs) is =
        writings.of_tuple s (field_trees fs) ∙ ap (λ o. where_some o (λ h. Some (kind.Tuple h))) (heading_of_kinds fs is.0 is.1 (all_written fs is.1))
    written_back (relation_type fs) is =
        writings.of_relation s (field_trees fs) ∙ ap (λ o. where_some o (λ h. Some (kind.Relation h))) (heading_of_kinds fs is.0 is.1 (all_written fs is.1))

    all_written : (fs : Fields) → AreDefined s fs → all_named (written s) (field_trees fs) ≡ Some (field_kinds fs)
    all_written no_fields are = refl
    all_written (field n ty fs) are = λ i. where_some (written_back ty are.1 i) (λ k. where_some (all_written fs are.2 i) (λ ks. Some (record { name = n; value = k } ∷ ks)))

  pub heading_back : (fs : Fields) → AreColumns fs → AreDefined s fs → heading_written s (field_trees fs) ≡ Some (header_of fs)
  heading_back fs cs are = heading_of_kinds fs cs are (all_written fs are)
