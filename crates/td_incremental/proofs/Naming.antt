-- What the program comes to of references and of the names by which they refer.
use Rattle.std.proofs.Common.{◌≡◌, ◌&&◌, ◌||◌, ℕ, Bool, true, false, cond, List, [], ◌∷◌, ◌++◌, refl, ap, sym, ◌∙◌, subst}
use Rattle.std.specs.Prelude.{slice_get}
use Rattle.std.specs.List.{filter}
use Rattle.std.specs.Ordering.{eq_by_cmp}
use Rattle.td_values.specs.Headings.{Header}
use Rattle.td_values.specs.Order.{text_cmp}
use Rattle.td_values.proofs.Walks.{is_tied}
use Rattle.td_syntax.specs.declared.tree.BinaryOperator.{BinaryOperator}
use Rattle.td_syntax.specs.declared.tree.BinaryOperator.TheVariants as binary
use Rattle.td_syntax.specs.declared.tree.UnaryOperator.{UnaryOperator}
use Rattle.td_syntax.specs.declared.tree.UnaryOperator.TheVariants as unary
use Rattle.td_tuples.specs.Parts.{is_in, names_of}
use Rattle.td_tuples.proofs.Lists.{same_name}
use Rattle.td_typed_trees.specs.declared.tree.Typed.{Typed}
use Rattle.td_typed_trees.specs.declared.tree.Typed.TheVariants as tree
use Rattle.td_headings.specs.Catalogues.{CatalogueData}
use Rattle.td_headings.specs.Reached.{is_base}
use Rattle.td_incremental.specs.Growth.{IsUnread}
use Rattle.td_incremental.specs.References as words
use Rattle.td_incremental.specs.References.{AreAmong, HasNames, IsPartOf, Refers, RefersBy, SaysWithin, has_left_heading}
use Rattle.td_incremental.specs.ForProofs.Deciding.{is_and, is_at_least, is_at_most, is_emptiness}
use Rattle.td_incremental.specs.ForProofs.Referring.{AreBetween, IsHeadingAt, is_shared}

-- ---- forms
module _ (u : Typed) where
  pub says_matched : (x y : Typed) → u ≡ tree.Binary binary.NotMatching x y → SaysWithin x y (tree.Unary unary.IsEmpty u)
  says_matched x y is = subst (λ v. SaysWithin x y (tree.Unary unary.IsEmpty v)) (sym is) words.matched

  pub says_without : (x y : Typed) → u ≡ tree.Binary binary.Minus x y → SaysWithin x y (tree.Unary unary.IsEmpty u)
  says_without x y is = subst (λ v. SaysWithin x y (tree.Unary unary.IsEmpty v)) (sym is) words.without

  emptiness_says : (o : UnaryOperator) (x y v : Typed) → is_emptiness o ≡ true → SaysWithin x y (tree.Unary unary.IsEmpty v) → SaysWithin x y (tree.Unary o v)
  emptiness_says unary.IsEmpty x y v is h = h
  emptiness_says o x y v is h = cc

  pub says_of_empty : (o : UnaryOperator) (x y v w : Typed) → u ≡ tree.Unary o v → is_emptiness o ≡ true → w ≡ v → SaysWithin x y (tree.Unary unary.IsEmpty w) → SaysWithin x y u
  says_of_empty o x y v w is e d h = subst (SaysWithin x y) (sym is) (emptiness_says o x y v e (subst (λ z. SaysWithin x y (tree.Unary unary.IsEmpty z)) d h))

  at_most_says : (o : BinaryOperator) (x y : Typed) → is_at_most o ≡ true → SaysWithin x y (tree.Binary o x y)
  at_most_says binary.AtMost x y is = words.at_most
  at_most_says o x y is = cc

  pub says_at_most : (o : BinaryOperator) (x y p q : Typed) → u ≡ tree.Binary o x y → is_at_most o ≡ true → p ≡ x → q ≡ y → SaysWithin p q u
  says_at_most o x y p q is e d f = subst (SaysWithin p q) (sym (is ∙ (λ i. tree.Binary o (sym d i) (sym f i)))) (at_most_says o p q e)

  at_least_says : (o : BinaryOperator) (x y : Typed) → is_at_least o ≡ true → SaysWithin y x (tree.Binary o x y)
  at_least_says binary.AtLeast x y is = words.at_least
  at_least_says o x y is = cc

  pub says_at_least : (o : BinaryOperator) (x y p q : Typed) → u ≡ tree.Binary o x y → is_at_least o ≡ true → p ≡ x → q ≡ y → SaysWithin q p u
  says_at_least o x y p q is e d f = subst (SaysWithin q p) (sym (is ∙ (λ i. tree.Binary o (sym d i) (sym f i)))) (at_least_says o p q e)

-- ---- names
among_itself : (xs ys : List (List ℕ)) → xs ≡ ys → AreAmong ys xs
among_itself xs ys same x e = ap (λ zs. is_in zs x) same ∙ e

among_first : (xs ys : List (List ℕ)) → AreAmong xs (xs ++ ys)
among_first [] ys x e = cc
among_first (z ∷ zs) ys x e = by (eq_by_cmp text_cmp x z) e (among_first zs ys x)
  where
    by : (b : Bool) → (b || is_in zs x) ≡ true → (is_in zs x ≡ true → is_in (zs ++ ys) x ≡ true) → (b || is_in (zs ++ ys) x) ≡ true
    by true h rest = refl
    by false h rest = rest h

among_second : (xs ys : List (List ℕ)) → AreAmong ys (xs ++ ys)
among_second [] ys x e = e
among_second (z ∷ zs) ys x e = by (eq_by_cmp text_cmp x z) (among_second zs ys x e)
  where
    by : (b : Bool) → is_in (zs ++ ys) x ≡ true → (b || is_in (zs ++ ys) x) ≡ true
    by true rest = refl
    by false rest = rest

-- a name of a list of which p holds
chosen : (p : List ℕ → Bool) (xs : List (List ℕ)) (x : List ℕ) → is_in (filter p xs) x ≡ (is_in xs x && p x)
chosen p [] x = refl
chosen p (z ∷ zs) x = by (eq_by_cmp text_cmp x z) refl (p z) refl (chosen p zs x)
  where
    either : (b c : Bool) → (c || (b && c)) ≡ c
    either true true = refl
    either true false = refl
    either false true = refl
    either false false = refl

    by : (b : Bool) → eq_by_cmp text_cmp x z ≡ b → (c : Bool) → p z ≡ c → is_in (filter p zs) x ≡ (is_in zs x && p x) → is_in (cond c (z ∷ filter p zs) (filter p zs)) x ≡ ((b || is_in zs x) && p x)
    by true e true k rest = ap (λ w. w || is_in (filter p zs) x) e ∙ sym (ap p (same_name x z (is_tied (text_cmp x z) e)) ∙ k)
    by true e false k rest = rest ∙ ap (λ w. is_in zs x && w) (ap p (same_name x z (is_tied (text_cmp x z) e)) ∙ k) ∙ none (is_in zs x) ∙ sym (ap p (same_name x z (is_tied (text_cmp x z) e)) ∙ k)
      where
        none : (b : Bool) → (b && false) ≡ false
        none true = refl
        none false = refl
    by false e true k rest = ap (λ w. w || is_in (filter p zs) x) e ∙ rest
    by false e false k rest = rest

module _ (c : CatalogueData) where
  named_more : (xs ys : List (List ℕ)) → AreAmong xs ys → (u : Typed) → HasNames c xs u → HasNames c ys u
  named_more xs ys more u (words.relvar m v at among) = words.relvar m v at (λ x e. more x (among x e))
  named_more xs ys more u (words.project r ns among) = words.project r ns (λ x e. more x (among x e))
  named_more xs ys more u (words.where_ {r} b h) = words.where_ b (named_more xs ys more r h)
  named_more xs ys more u (words.left {r} o s is h) = words.left o s is (named_more xs ys more r h)

  pub relvar_named : (m : ℕ) (h : Header) (ns : List (List ℕ)) → IsHeadingAt c m h → ns ≡ names_of h → HasNames c ns (tree.Relvar m)
  relvar_named m h ns is same = words.relvar m (record { name = is.name; value = h }) is.heading (among_itself ns (names_of h) same)

  module _ (u : Typed) where
    pub project_named : (x : Typed) (ns xs : List (List ℕ)) → u ≡ tree.Project x ns → xs ≡ ns → HasNames c xs u
    project_named x ns xs is same = subst (HasNames c xs) (sym is) (words.project x ns (among_itself xs ns same))

    pub where_named : (x y p : Typed) (xs : List (List ℕ)) → u ≡ tree.Where x y → p ≡ x → HasNames c xs p → HasNames c xs u
    where_named x y p xs is d h = subst (HasNames c xs) (sym is) (words.where_ y (subst (HasNames c xs) d h))

    pub left_named : (o : BinaryOperator) (x y p : Typed) (xs : List (List ℕ)) → u ≡ tree.Binary o x y → has_left_heading o ≡ true → p ≡ x → HasNames c xs p → HasNames c xs u
    left_named o x y p xs is e d h = subst (HasNames c xs) (sym is) (words.left o y e (subst (HasNames c xs) d h))

  -- ---- references
  module _ (n : ℕ) where
    refers_more : (xs ys : List (List ℕ)) → AreAmong xs ys → (u : Typed) → Refers c n xs u → Refers c n ys u
    refers_more xs ys more u (words.whole r never h) = words.whole r never (named_more xs ys more r h)
    refers_more xs ys more u (words.part r ns v says never among) = words.part r ns u says never (λ x e. more x (among x e))
    refers_more xs ys more u (words.unread v never) = words.unread u never
    refers_more xs ys more u (words.both {u = x} {v = y} h k) = words.both (refers_more xs ys more x h) (refers_more xs ys more y k)

    both_refer : (o : BinaryOperator) (x y : Typed) (zs : List (List ℕ)) → is_and o ≡ true → Refers c n zs x → Refers c n zs y → Refers c n zs (tree.Binary o x y)
    both_refer binary.And x y zs is h k = words.both h k
    both_refer o x y zs is h k = cc

    module _ (u : Typed) where
      pub refers_whole : (x : Typed) (xs : List (List ℕ)) → u ≡ tree.Unary unary.IsEmpty (tree.Binary binary.NotMatching x (tree.Relvar n)) → IsUnread c n x → HasNames c xs x → Refers c n xs u
      refers_whole x xs is never h = subst (Refers c n xs) (sym is) (words.whole x never h)

      pub refers_part : (x y : Typed) (ns xs : List (List ℕ)) → SaysWithin x y u → y ≡ tree.Project (tree.Relvar n) ns → IsUnread c n x → xs ≡ ns → Refers c n xs u
      refers_part x y ns xs says is never same = words.part x ns u (subst (λ z. SaysWithin x z u) is says) never (among_itself xs ns same)

      pub refers_both : (o : BinaryOperator) (x y p q : Typed) (xs ys zs : List (List ℕ)) → u ≡ tree.Binary o x y → is_and o ≡ true → p ≡ x → q ≡ y → zs ≡ xs ++ ys → Refers c n xs p → Refers c n ys q → Refers c n zs u
      refers_both o x y p q xs ys zs is e d f same h k =
          subst (λ v. Refers c n zs v) (sym is)
          (both_refer o x y zs e
          (subst (λ ws. Refers c n ws x) (sym same) (refers_more xs (xs ++ ys) (among_first xs ys) x (subst (Refers c n xs) d h)))
          (subst (λ ws. Refers c n ws y) (sym same) (refers_more ys (xs ++ ys) (among_second xs ys) y (subst (Refers c n ys) f k))))

-- ---- parts of two relvars
module _ (m : ℕ) (h : Header) (ns : List (List ℕ)) (u : Typed) where
  pub whole_part : u ≡ tree.Relvar m → ns ≡ names_of h → IsPartOf m h ns u
  whole_part is all = subst (IsPartOf m h ns) (sym is) (words.itself all)

  pub names_part : (xs : List (List ℕ)) → u ≡ tree.Project (tree.Relvar m) xs → ns ≡ xs → IsPartOf m h ns u
  names_part xs is same = subst (IsPartOf m h ns) (sym (is ∙ ap (tree.Project (tree.Relvar m)) (sym same))) words.at_names

pub between : (c : CatalogueData) (m n : ℕ) (a b : Typed) (g h : Header) (xs ys ps qs names : List (List ℕ)) → IsHeadingAt c m g → IsHeadingAt c n h → IsPartOf m g xs a → IsPartOf n h ys b
    → ps ≡ xs → qs ≡ ys → names ≡ filter (is_shared g h qs) ps → AreBetween c m n a b names
between c m n a b g h xs ys ps qs names one other of_one of_other first second is = record {
  one = record { name = one.name; value = g };
  other = record { name = other.name; value = h };
  one_there = one.heading;
  other_there = other.heading;
  one_names = xs;
  other_names = ys;
  of_one = of_one;
  of_other = of_other;
  shared = λ x.
      ap (λ zs. is_in zs x) (is ∙ (λ i. filter (is_shared g h (second i)) (first i)))
      ∙ chosen (is_shared g h ys) xs x
      ∙ moved (is_in xs x) (is_in (names_of g) x) (is_in (names_of h) x) (is_in ys x);
}
  where
    moved : (a b c d : Bool) → (a && ((b && c) && d)) ≡ ((b && a) && (c && d))
    moved true true c d = refl
    moved true false c d = refl
    moved false true c d = refl
    moved false false c d = refl

pub sole : (c : CatalogueData) (n m : ℕ) (names : List (List ℕ)) (u v a b : Typed) → SaysWithin a b v → v ≡ u → AreBetween c m n a b names → is_base (slice_get c.origins m) ≡ true → (m ≡ n → ⊥) → RefersBy c n m names u
sole c n m names u v a b says is k base apart = record {
  a = a;
  b = b;
  says = subst (SaysWithin a b) is says;
  one = k.one;
  other = k.other;
  one_there = k.one_there;
  other_there = k.other_there;
  one_names = k.one_names;
  other_names = k.other_names;
  of_one = k.of_one;
  of_other = k.of_other;
  base = base;
  apart = apart;
  shared = k.shared;
}
