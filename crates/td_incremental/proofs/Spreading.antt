-- What spreads, over relvars of which one gained tuples.
use Rattle.std.proofs.Common.{◌≡◌, inl, inr, ℕ, true, List, [], ◌∷◌, Result, refl, ap, sym, ◌∙◌, subst}
use Rattle.std.specs.Prelude.{slice_get}
use Rattle.std.specs.List.{filter_map}
use Rattle.td_values.specs.Data.{Datum}
use Rattle.td_values.specs.Rows.{RowsData}
use Rattle.td_syntax.specs.declared.tree.BinaryOperator.{BinaryOperator}
use Rattle.td_syntax.specs.declared.tree.BinaryOperator.TheVariants as binary
use Rattle.td_syntax.specs.declared.tree.Nesting.TheVariants as nesting
use Rattle.td_typed_trees.specs.declared.tree.Typed.{Typed}
use Rattle.td_typed_trees.specs.declared.tree.Typed.TheVariants as tree
use Rattle.td_typed_trees.specs.declared.tree.Typed.TheFolds.{fold-roll-Typed}
use Rattle.td_typed_trees.specs.declared.tree.Typed.TheOpen.{Typed-F}
use Rattle.td_tuples.specs.declared.items.Item.{Item}
use Rattle.td_algebra.proofs.Lists.{In, all_in}
use Rattle.td_algebra.specs.Functions.{extended, restricted}
use Rattle.td_algebra.specs.Raising.{and_then}
use Rattle.td_algebra.specs.declared.errors.Stop.{Stop}
use Rattle.td_headings.specs.Catalogues.{CatalogueData}
use Rattle.td_headings.specs.Expressions.{virtual_at}
use Rattle.td_headings.specs.Reached.{is_base}
use Rattle.td_meaning.specs.ForProofs.Over.{items_meant}
use Rattle.td_meaning.specs.Mean.{Meaning, Names, Relvars, Selection, mean, mean_binary, mean_both, mean_by, mean_extend, mean_relvar, mean_step, mean_where, rows_in, truth_at, value_at}
use Rattle.td_meaning.proofs.Forms as forms
use Rattle.td_operators.specs.Operators.{as_value, nested, operate, part_at, unnested, with_new_names}
use Rattle.td_operators.specs.Values.{rows_of}
use Rattle.td_semantics.specs.Meanings.{no_names, with_virtuals}
use Rattle.td_incremental.specs.Growth.{IsUnread, Spreads, goes_by_left, goes_by_right, itself, virtual, where_, project, rename, extend, wrap, open_, left, right, union}
use Rattle.td_incremental.proofs.Answers.{Grown, then_grown, then_same}
use Rattle.td_incremental.proofs.Operators.{extended_grown, restricted_grown}
use Rattle.td_incremental.proofs.Values.{GrownValue, as_rows, as_values, both_operands, both_union, left_compose, left_intersect, left_join, left_matching, left_minus, left_not_matching, left_operand, new_names_grown, open_grown, part_grown, right_compose, right_intersect, right_join, right_matching, right_operand, wrap_grown}
use Rattle.td_incremental.proofs.Virtuals.{Alike, all_alike, new_same, old_same}
use Rattle.td_incremental.proofs.Walks.{IsGrown}

along : {x y z p q r : Result Datum Stop} → x ≡ p → y ≡ q → z ≡ r → Grown GrownValue p q r → Grown GrownValue x y z
along {x} {y} {z} {p} {q} {r} d e f h = subst (λ w. Grown GrownValue w y z) (sym d) (subst (λ w. Grown GrownValue p w z) (sym e) (subst (λ w. Grown GrownValue p q w) (sym f) h))

-- ---- operators of two relations
by_left : (o : BinaryOperator) → goes_by_left o ≡ true → (v d e k : Datum) → GrownValue d e k → Grown GrownValue (operate o d v) (operate o e v) (operate o k v)
by_left binary.Join is = left_operand binary.Join left_join
by_left binary.Compose is = left_operand binary.Compose left_compose
by_left binary.Intersect is = left_operand binary.Intersect left_intersect
by_left binary.Matching is = left_operand binary.Matching left_matching
by_left binary.NotMatching is = left_operand binary.NotMatching left_not_matching
by_left binary.Minus is = left_operand binary.Minus left_minus
by_left o is = cc

by_right : (o : BinaryOperator) → goes_by_right o ≡ true → (v d e k : Datum) → GrownValue d e k → Grown GrownValue (operate o v d) (operate o v e) (operate o v k)
by_right binary.Join is = right_operand binary.Join right_join
by_right binary.Compose is = right_operand binary.Compose right_compose
by_right binary.Intersect is = right_operand binary.Intersect right_intersect
by_right binary.Matching is = right_operand binary.Matching right_matching
by_right o is = cc

-- ---- the forms over meanings
module _ (f g h : Meaning) (names : Names) (grown : Grown GrownValue (f names) (g names) (h names)) where
  where_grown : (m : Meaning) → Grown GrownValue (mean_where f m names) (mean_where g m names) (mean_where h m names)
  unfolding mean_where rows_in
  where_grown m =
      let walk : RowsData → Result Datum Stop = λ ts. and_then (restricted (truth_at m names) ts) as_value in
      then_grown IsGrown GrownValue walk walk walk (and_then (f names) rows_of) (and_then (g names) rows_of) (and_then (h names) rows_of) (as_rows (f names) (g names) (h names) grown)
      (λ a w b k. as_values (restricted (truth_at m names) a) (restricted (truth_at m names) w) (restricted (truth_at m names) b) (restricted_grown a w b k (truth_at m names)))

  by_grown : (o : Datum → Result Datum Stop) → ((d e k : Datum) → GrownValue d e k → Grown GrownValue (o d) (o e) (o k)) → Grown GrownValue (mean_by o f names) (mean_by o g names) (mean_by o h names)
  unfolding mean_by
  by_grown o each = then_grown GrownValue GrownValue o o o (f names) (g names) (h names) grown each

  extend_grown : (items : List (Item Meaning)) → Grown GrownValue (mean_extend f items names) (mean_extend g items names) (mean_extend h items names)
  unfolding mean_extend rows_in
  extend_grown items =
      let walk : RowsData → Result Datum Stop = λ ts. and_then (extended (value_at names) items ts) as_value in
      then_grown IsGrown GrownValue walk walk walk (and_then (f names) rows_of) (and_then (g names) rows_of) (and_then (h names) rows_of) (as_rows (f names) (g names) (h names) grown)
      (λ a w b k. as_values (extended (value_at names) items a) (extended (value_at names) items w) (extended (value_at names) items b) (extended_grown a w b k (value_at names) items))

  left_grown : (o : BinaryOperator) → goes_by_left o ≡ true → (m : Meaning) → Grown GrownValue (mean_both o f m names) (mean_both o g m names) (mean_both o h m names)
  unfolding mean_both
  left_grown o is m =
      let rest : Datum → Result Datum Stop = λ d. and_then (m names) (operate o d) in
      then_grown GrownValue GrownValue rest rest rest (f names) (g names) (h names) grown (λ d e k p. then_same GrownValue (operate o d) (operate o e) (operate o k) (m names) (λ v. by_left o is v d e k p))

  right_grown : (o : BinaryOperator) → goes_by_right o ≡ true → (m : Meaning) → Grown GrownValue (mean_both o m f names) (mean_both o m g names) (mean_both o m h names)
  unfolding mean_both
  right_grown o is m = then_same GrownValue (λ d. and_then (f names) (operate o d)) (λ d. and_then (g names) (operate o d)) (λ d. and_then (h names) (operate o d)) (m names)
      (λ v. then_grown GrownValue GrownValue (operate o v) (operate o v) (operate o v) (f names) (g names) (h names) grown (by_right o is v))

  union_grown : (k l m : Meaning) → Grown GrownValue (k names) (l names) (m names) → Grown GrownValue (mean_both binary.Union f k names) (mean_both binary.Union g l names) (mean_both binary.Union h m names)
  unfolding mean_both
  union_grown k l m more = then_grown GrownValue GrownValue (λ d. and_then (k names) (operate binary.Union d)) (λ d. and_then (l names) (operate binary.Union d)) (λ d. and_then (m names) (operate binary.Union d)) (f names) (g names) (h names) grown
      (λ d e x p. then_grown GrownValue GrownValue (operate binary.Union d) (operate binary.Union e) (operate binary.Union x) (k names) (l names) (m names) more (λ u v w q. both_operands binary.Union both_union d e x u v w p q))

rows_grown : (f g h : Meaning) (names : Names) → Grown GrownValue (f names) (g names) (h names) → Grown IsGrown (rows_in f names) (rows_in g names) (rows_in h names)
unfolding rows_in
rows_grown f g h names grown = as_rows (f names) (g names) (h names) grown

relvar_grown : (r s t : Relvars) (m : ℕ) (names : Names) → Grown IsGrown (r m) (s m) (t m) → Grown GrownValue (mean_relvar r m names) (mean_relvar s m names) (mean_relvar t m names)
unfolding mean_relvar
relvar_grown r s t m names grown = as_values (r m) (s m) (t m) grown

-- none of these operators is an AND or an OR
left_both : (o : BinaryOperator) → goes_by_left o ≡ true → (f m : Meaning) → mean_binary o f m ≡ mean_both o f m
left_both binary.And is f m = cc
left_both binary.Or is f m = cc
left_both o is f m = refl

right_both : (o : BinaryOperator) → goes_by_right o ≡ true → (f m : Meaning) → mean_binary o f m ≡ mean_both o f m
right_both binary.And is f m = cc
right_both binary.Or is f m = cc
right_both o is f m = refl

-- relvars before and after n gained tuples, and with these alone: what spreads gained what comes of these
abbrev pub AreGrownAlike : CatalogueData → ℕ → Selection → Relvars → Relvars → Relvars → Type 0
AreGrownAlike c n p r s t = Alike c n p (Spreads c n) (Grown IsGrown) r s t

module _ (c : CatalogueData) (n : ℕ) (p : Selection) where
  module _ (r s t : Relvars) (a : AreGrownAlike c n p r s t) where
    abbrev pub old_is : (u : Typed) → IsUnread c n u → mean r p u ≡ mean s p u
    old_is = old_same c n p (Spreads c n) (Grown IsGrown) r s t a

    abbrev pub new_is : (u : Typed) → IsUnread c n u → mean t p u ≡ mean s p u
    new_is = new_same c n p (Spreads c n) (Grown IsGrown) r s t a

    abbrev GrownTree : Typed → Type 0
    GrownTree u = (names : Names) → Grown GrownValue (mean r p u names) (mean s p u names) (mean t p u names)

    relvar_tree : (m : ℕ) → Grown IsGrown (r m) (s m) (t m) → GrownTree (tree.Relvar m)
    relvar_tree m h names = along (λ i. forms.of_relvar r p m i names) (λ i. forms.of_relvar s p m i names) (λ i. forms.of_relvar t p m i names) (relvar_grown r s t m names h)

    abbrev meant : Relvars → Typed → Meaning
    meant q u = mean q p u

    -- a form of one operand
    one_operand : (u x : Typed) (o : Datum → Result Datum Stop) → ((q : Relvars) → meant q u ≡ mean_by o (meant q x)) → ((d e k : Datum) → GrownValue d e k → Grown GrownValue (o d) (o e) (o k)) → GrownTree x → GrownTree u
    one_operand u x o is each h names = along (λ i. is r i names) (λ i. is s i names) (λ i. is t i names) (by_grown (meant r x) (meant s x) (meant t x) names (h names) o each)

    items_same : (q : Relvars) → ((u : Typed) → IsUnread c n u → meant q u ≡ meant s u) → (xs : List (Item Typed)) → ((x : Item Typed) → In x xs → IsUnread c n x.term) → items_meant (meant q) xs ≡ items_meant (meant s) xs
    items_same q same [] unread = refl
    items_same q same (x ∷ xs) unread =
        let here = same x.term (unread x (inl refl)) in
        let later = items_same q same xs (λ y h. unread y (inr h)) in
        λ i. record { name = x.name; ty = x.ty; term = here i } ∷ later i

    extend_means : (q : Relvars) (x : Typed) (xs : List (Item Typed)) → meant q (tree.Extend x xs) ≡ mean_extend (meant q x) (items_meant (meant q) xs)
    extend_means q x xs = ap (meant q) (sym (tree.rolls-Extend x xs)) ∙ fold-roll-Typed Meaning (mean_step q p) (Typed-F.Extend x xs)

    pub spread : (u : Typed) → Spreads c n u → GrownTree u
    spread u itself = relvar_tree n a.itself_related
    spread u (virtual {u = v} m is h) = relvar_tree m (a.virtual_related m v is h)
    spread u (where_ {r = x} b h unread) = λ names.
        along
        (λ i. (forms.of_where r p x b ∙ ap (mean_where (meant r x)) (old_is b unread)) i names)
        (λ i. forms.of_where s p x b i names)
        (λ i. (forms.of_where t p x b ∙ ap (mean_where (meant t x)) (new_is b unread)) i names)
        (where_grown (meant r x) (meant s x) (meant t x) names (spread x h names) (meant s b))
    spread u (project {r = x} xs h) = one_operand u x (part_at xs) (λ q. forms.of_project q p x xs) (part_grown xs) (spread x h)
    spread u (rename {r = x} xs h) = one_operand u x (with_new_names xs) (λ q. forms.of_rename q p x xs) (new_names_grown xs) (spread x h)
    spread u (extend {r = x} xs h unread) = λ names.
        let each = all_in (λ (y : Item Typed). IsUnread c n y.term) xs unread in
        along
        (λ i. (extend_means r x xs ∙ ap (mean_extend (meant r x)) (items_same r old_is xs each)) i names)
        (λ i. extend_means s x xs i names)
        (λ i. (extend_means t x xs ∙ ap (mean_extend (meant t x)) (items_same t new_is xs each)) i names)
        (extend_grown (meant r x) (meant s x) (meant t x) names (spread x h names) (items_meant (meant s) xs))
    spread u (wrap {r = x} xs y h) = one_operand u x (nested nesting.Wrap xs y) (λ q. forms.of_nest q p nesting.Wrap x xs y) (wrap_grown xs y) (spread x h)
    spread u (open_ {r = x} o y h) = one_operand u x (unnested o y) (λ q. forms.of_unnest q p o x y) (open_grown o y) (spread x h)
    spread u (left {r = x} o y is h unread) = λ names.
        along
        (λ i. (forms.of_binary r p o x y ∙ left_both o is (meant r x) (meant r y) ∙ ap (mean_both o (meant r x)) (old_is y unread)) i names)
        (λ i. (forms.of_binary s p o x y ∙ left_both o is (meant s x) (meant s y)) i names)
        (λ i. (forms.of_binary t p o x y ∙ left_both o is (meant t x) (meant t y) ∙ ap (mean_both o (meant t x)) (new_is y unread)) i names)
        (left_grown (meant r x) (meant s x) (meant t x) names (spread x h names) o is (meant s y))
    spread u (right {s = y} o x is unread h) = λ names.
        along
        (λ i. (forms.of_binary r p o x y ∙ right_both o is (meant r x) (meant r y) ∙ ap (λ m. mean_both o m (meant r y)) (old_is x unread)) i names)
        (λ i. (forms.of_binary s p o x y ∙ right_both o is (meant s x) (meant s y)) i names)
        (λ i. (forms.of_binary t p o x y ∙ right_both o is (meant t x) (meant t y) ∙ ap (λ m. mean_both o m (meant t y)) (new_is x unread)) i names)
        (right_grown (meant r y) (meant s y) (meant t y) names (spread y h names) o is (meant s x))
    spread u (union {r = x} {s = y} h k) = λ names.
        along (λ i. forms.of_binary r p binary.Union x y i names) (λ i. forms.of_binary s p binary.Union x y i names) (λ i. forms.of_binary t p binary.Union x y i names)
        (union_grown (meant r x) (meant s x) (meant t x) names (spread x h names) (meant r y) (meant s y) (meant t y) (spread y k names))

  pub all_grown : is_base (slice_get c.origins n) ≡ true → (ns : List ℕ) (r s t : Relvars) → AreGrownAlike c n p r s t → AreGrownAlike c n p (with_virtuals p (filter_map (virtual_at c) ns) r) (with_virtuals p (filter_map (virtual_at c) ns) s) (with_virtuals p (filter_map (virtual_at c) ns) t)
  all_grown base = all_alike c n p (Spreads c n) (Grown IsGrown) base (λ r s t a u h. rows_grown (mean r p u) (mean s p u) (mean t p u) no_names (spread r s t a u h no_names))
