-- What is told of forms, by what is told of their parts.
use Rattle.std.proofs.Common.{◌≡◌, ⊎_elim, inl, inr, ℕ, Bool, true, false, List, [], ◌∷◌, ◌++◌, Some, Result, Ok, Err, IfOk, refl, ap, sym, ◌∙◌, subst, rules, arith}
use Rattle.std.specs.Prelude.{slice_get}
use Rattle.std.specs.List.{All, Contains}
use Rattle.std.proofs.lemmas.List.Elements.{Contains-append_cases}
use Rattle.td_syntax.specs.declared.tree.BinaryOperator.{BinaryOperator}
use Rattle.td_syntax.specs.declared.tree.BinaryOperator.TheVariants as binary
use Rattle.td_syntax.specs.declared.tree.Nesting.{Nesting}
use Rattle.td_syntax.specs.declared.tree.Nesting.TheVariants as nesting
use Rattle.td_syntax.specs.declared.tree.UnaryOperator.{UnaryOperator}
use Rattle.td_syntax.specs.declared.tree.UnaryOperator.TheVariants as unary
use Rattle.td_tuples.specs.declared.items.Item.{Item}
use Rattle.td_typed_trees.specs.Mentions.{Mentions, mentioned, relvars_in}
use Rattle.td_typed_trees.specs.ForProofs.Mentioned.{items_mentioned}
use Rattle.td_typed_trees.specs.declared.tree.Typed.{Typed, the_lemmas}
use Rattle.td_typed_trees.specs.declared.tree.Typed.TheVariants as tree
use Rattle.td_typed_trees.proofs.Forms as forms
use Rattle.td_algebra.proofs.Lists.{In, all_in, contains_in}
use Rattle.td_headings.specs.Catalogues.{CatalogueData}
use Rattle.td_headings.specs.declared.defined.Origin.TheVariants as origin
use Rattle.td_incremental.specs.Growth.{IsUnread, IsWatched, Spreads, empty, within, around, unread, both, goes_by_left, goes_by_right, virtual, where_, project, rename, extend, wrap, open_, left, right, union}
use Rattle.td_incremental.specs.ForProofs.Deciding.{IsGrowth, if_unread, is_and, is_at_least, is_at_most, is_union, of_both, of_comparison, of_nest, of_unary, spreads_if}
use Rattle.td_incremental.specs.declared.watching.Growth.{Growth}
use Rattle.td_incremental.specs.declared.watching.Growth.TheVariants as growth
use Rattle.td_incremental.proofs.Named.{relvars_append}
use Rattle.td_incremental.proofs.Reading.{all_unread, named_unread, virtual_unread}

module _ (c : CatalogueData) (n : ℕ) where
  -- ---- what no part reads
  module _ (u : Typed) where
    names_alike : (v : Typed) → mentioned u ≡ mentioned v → IsUnread c n v → IsUnread c n u
    names_alike v same never = all_unread c n u (λ m h. named_unread c n v never m (subst (λ l. Contains (relvars_in l) m) same h))

    names_of_two : (ms ns : Mentions) → mentioned u ≡ ms ++ ns → ((m : ℕ) → Contains (relvars_in ms) m → IsUnread c n (tree.Relvar m)) → ((m : ℕ) → Contains (relvars_in ns) m → IsUnread c n (tree.Relvar m)) → IsUnread c n u
    names_of_two ms ns is first second = all_unread c n u (λ m h.
        ⊎_elim (first m) (second m) (Contains-append_cases (relvars_in ms) (relvars_in ns) m (subst (λ l. Contains l m) (ap relvars_in is ∙ relvars_append ms ns) h)))

  two_unread : (u x y : Typed) → mentioned u ≡ mentioned x ++ mentioned y → IsUnread c n x → IsUnread c n y → IsUnread c n u
  two_unread u x y is first second = names_of_two u (mentioned x) (mentioned y) is (named_unread c n x first) (named_unread c n y second)

  terms_unread : (xs : List (Item Typed)) → ((x : Item Typed) → In x xs → IsUnread c n x.term) → (m : ℕ) → Contains (relvars_in (items_mentioned xs)) m → IsUnread c n (tree.Relvar m)
  terms_unread [] each m h = absurd (omega (arith, h.1))
  terms_unread (x ∷ xs) each m h =
      ⊎_elim
      (named_unread c n x.term (each x (inl refl)) m)
      (terms_unread xs (λ y k. each y (inr k)) m)
      (Contains-append_cases (relvars_in (mentioned x.term)) (relvars_in (items_mentioned xs)) m (subst (λ l. Contains l m) (relvars_append (mentioned x.term) (items_mentioned xs)) h))

  -- ---- forms of one operand
  one_operand : (u x : Typed) → mentioned u ≡ mentioned x → (Spreads c n x → Spreads c n u) → (g : Growth) → IsGrowth c n x g → IsGrowth c n u g
  one_operand u x same spreads growth.Unread h = names_alike u x same h
  one_operand u x same spreads growth.Spreads h = spreads h
  one_operand u x same spreads growth.Other h = tt

  pub of_project : (x : Typed) (xs : List (List ℕ)) (g : Growth) → IsGrowth c n x g → IsGrowth c n (tree.Project x xs) g
  of_project x xs g h = one_operand (tree.Project x xs) x (search (rules, the_lemmas)) (λ s. project xs s) g h

  pub of_rename : (x : Typed) (xs : List (List ℕ × List ℕ)) (g : Growth) → IsGrowth c n x g → IsGrowth c n (tree.Rename x xs) g
  of_rename x xs g h = one_operand (tree.Rename x xs) x (search (rules, the_lemmas)) (λ s. rename xs s) g h

  pub of_unnest : (o : Nesting) (x : Typed) (y : List ℕ) (g : Growth) → IsGrowth c n x g → IsGrowth c n (tree.Unnest o x y) g
  of_unnest o x y g h = one_operand (tree.Unnest o x y) x (search (rules, the_lemmas)) (λ s. open_ o y s) g h

  pub nested : (o : Nesting) (x : Typed) (xs : List (List ℕ)) (y : List ℕ) (g : Growth) → IsGrowth c n x g → IsGrowth c n (tree.Nest o x xs y) (of_nest o g)
  nested nesting.Wrap x xs y g h = one_operand (tree.Nest nesting.Wrap x xs y) x (search (rules, the_lemmas)) (λ s. wrap xs y s) g h
  nested nesting.Group x xs y growth.Unread h = names_alike (tree.Nest nesting.Group x xs y) x (search (rules, the_lemmas)) h
  nested nesting.Group x xs y growth.Spreads h = tt
  nested nesting.Group x xs y growth.Other h = tt

  -- ---- forms with terms
  pub of_where : (x y : Typed) (g : Growth) (b : Bool) → IsGrowth c n x g → (b ≡ true → IsUnread c n y) → IsGrowth c n (tree.Where x y) (if_unread b g)
  of_where x y growth.Unread true h k = two_unread (tree.Where x y) x y (forms.of_where x y) h (k refl)
  of_where x y growth.Spreads true h k = where_ y h (k refl)
  of_where x y growth.Other true h k = tt
  of_where x y g false h k = tt

  pub of_extend : (x : Typed) (xs : List (Item Typed)) (g : Growth) (b : Bool) → IsGrowth c n x g → (b ≡ true → All (λ y. IsUnread c n y.term) xs) → IsGrowth c n (tree.Extend x xs) (if_unread b g)
  of_extend x xs growth.Unread true h k = names_of_two (tree.Extend x xs) (mentioned x) (items_mentioned xs) (forms.of_extend x xs) (named_unread c n x h) (terms_unread xs (all_in (λ (y : Item Typed). IsUnread c n y.term) xs (k refl)))
  of_extend x xs growth.Spreads true h k = extend xs h (k refl)
  of_extend x xs growth.Other true h k = tt
  of_extend x xs g false h k = tt

  -- ---- forms of two operands
  if_spreads : (u : Typed) (b : Bool) → (b ≡ true → Spreads c n u) → IsGrowth c n u (spreads_if b)
  if_spreads u true h = h refl
  if_spreads u false h = tt

  union_of : (o : BinaryOperator) (x y : Typed) → is_union o ≡ true → Spreads c n x → Spreads c n y → Spreads c n (tree.Binary o x y)
  union_of binary.Union x y is h k = union h k
  union_of o x y is h k = cc

  pub of_binary : (o : BinaryOperator) (x y : Typed) (g h : Growth) → IsGrowth c n x g → IsGrowth c n y h → IsGrowth c n (tree.Binary o x y) (of_both o g h)
  of_binary o x y growth.Unread growth.Unread p q = two_unread (tree.Binary o x y) x y (forms.of_binary o x y) p q
  of_binary o x y growth.Unread growth.Spreads p q = if_spreads (tree.Binary o x y) (goes_by_right o) (λ is. right o x is p q)
  of_binary o x y growth.Spreads growth.Unread p q = if_spreads (tree.Binary o x y) (goes_by_left o) (λ is. left o y is p q)
  of_binary o x y growth.Spreads growth.Spreads p q = if_spreads (tree.Binary o x y) (is_union o) (λ is. union_of o x y is p q)
  of_binary o x y growth.Unread growth.Other p q = tt
  of_binary o x y growth.Spreads growth.Other p q = tt
  of_binary o x y growth.Other h p q = tt

  -- ---- constraints
  unary_is : (o : UnaryOperator) (x : Typed) (g : Growth) → IsGrowth c n x g → of_unary o g ≡ true → IsWatched c n (tree.Unary o x)
  unary_is o x growth.Unread h k = unread (tree.Unary o x) (names_alike (tree.Unary o x) x (forms.of_unary o x) h)
  unary_is unary.IsEmpty x growth.Spreads h k = empty h
  unary_is o x growth.Spreads h k = cc
  unary_is o x growth.Other h k = cc

  within_is : (o : BinaryOperator) (x y : Typed) → is_at_most o ≡ true → Spreads c n x → IsUnread c n y → IsWatched c n (tree.Binary o x y)
  within_is binary.AtMost x y is h k = within y h k
  within_is o x y is h k = cc

  around_is : (o : BinaryOperator) (x y : Typed) → is_at_least o ≡ true → IsUnread c n x → Spreads c n y → IsWatched c n (tree.Binary o x y)
  around_is binary.AtLeast x y is h k = around x h k
  around_is o x y is h k = cc

  comparison_is : (o : BinaryOperator) (x y : Typed) (g h : Growth) → IsGrowth c n x g → IsGrowth c n y h → of_comparison o g h ≡ true → IsWatched c n (tree.Binary o x y)
  comparison_is o x y growth.Unread growth.Unread p q is = unread (tree.Binary o x y) (two_unread (tree.Binary o x y) x y (forms.of_binary o x y) p q)
  comparison_is o x y growth.Unread growth.Spreads p q is = around_is o x y is p q
  comparison_is o x y growth.Spreads growth.Unread p q is = within_is o x y is p q
  comparison_is o x y growth.Spreads growth.Spreads p q is = cc
  comparison_is o x y growth.Unread growth.Other p q is = cc
  comparison_is o x y growth.Spreads growth.Other p q is = cc
  comparison_is o x y growth.Other h p q is = cc

  both_are : (o : BinaryOperator) (x y : Typed) → is_and o ≡ true → IsWatched c n x → IsWatched c n y → IsWatched c n (tree.Binary o x y)
  both_are binary.And x y is h k = both h k
  both_are o x y is h k = cc

  -- ---- what the program comes to
  module _ (u : Typed) where
    pub unread_by : (ms : Mentions) (ps : List ℕ) (b : Bool) → ms ≡ mentioned u → ps ≡ relvars_in ms → (b ≡ true → All (λ m. IsUnread c n (tree.Relvar m)) ps) → b ≡ true → IsUnread c n u
    unread_by ms ps b is are each t = all_unread c n u (λ m h. all_in (λ (k : ℕ). IsUnread c n (tree.Relvar k)) ps (each t) m (contains_in ps m (subst (λ l. Contains l m) (sym (are ∙ ap relvars_in is)) h)))

    told : (v : Typed) (r g : Growth) → u ≡ v → r ≡ g → IsGrowth c n v g → IsGrowth c n u r
    told v r g is same h = subst (λ w. IsGrowth c n w r) (sym is) (subst (λ k. IsGrowth c n v k) (sym same) h)

    pub told_where : (x y p q : Typed) (g r : Growth) (b : Bool) → u ≡ tree.Where x y → p ≡ x → q ≡ y → IsGrowth c n p g → (b ≡ true → IsUnread c n q) → r ≡ if_unread b g → IsGrowth c n u r
    told_where x y p q g r b is d e h k same = told (tree.Where x y) r (if_unread b g) is same (of_where x y g b (subst (λ w. IsGrowth c n w g) d h) (λ t. subst (IsUnread c n) e (k t)))

    pub told_extend : (x p : Typed) (xs ys : List (Item Typed)) (g r : Growth) (b : Bool) → u ≡ tree.Extend x xs → p ≡ x → ys ≡ xs → IsGrowth c n p g → (b ≡ true → All (λ y. IsUnread c n y.term) ys) → r ≡ if_unread b g → IsGrowth c n u r
    told_extend x p xs ys g r b is d e h k same = told (tree.Extend x xs) r (if_unread b g) is same (of_extend x xs g b (subst (λ w. IsGrowth c n w g) d h) (λ t. subst (λ zs. All (λ (y : Item Typed). IsUnread c n y.term) zs) e (k t)))

    pub told_binary : (o : BinaryOperator) (x y p q : Typed) (g h r : Growth) → u ≡ tree.Binary o x y → p ≡ x → q ≡ y → IsGrowth c n p g → IsGrowth c n q h → r ≡ of_both o g h → IsGrowth c n u r
    told_binary o x y p q g h r is d e j k same = told (tree.Binary o x y) r (of_both o g h) is same (of_binary o x y g h (subst (λ w. IsGrowth c n w g) d j) (subst (λ w. IsGrowth c n w h) e k))

    pub told_nest : (o : Nesting) (x p : Typed) (xs : List (List ℕ)) (y : List ℕ) (g r : Growth) → u ≡ tree.Nest o x xs y → p ≡ x → IsGrowth c n p g → r ≡ of_nest o g → IsGrowth c n u r
    told_nest o x p xs y g r is d h same = told (tree.Nest o x xs y) r (of_nest o g) is same (nested o x xs y g (subst (λ w. IsGrowth c n w g) d h))

    -- a form of one operand, of which the same is told
    abbrev IsTold : Typed → Type 0
    IsTold x = (g : Growth) → IsGrowth c n x g → IsGrowth c n u g

    told_again : {E : Type 0} (x p : Typed) (w : Result Growth E) → IsTold x → p ≡ x → IfOk w (IsGrowth c n p) → IfOk w (IsGrowth c n u)
    told_again x p (Ok g) each d h = each g (subst (λ w. IsGrowth c n w g) d h)
    told_again x p (Err e) each d h = tt

    pub told_project : {E : Type 0} (x p : Typed) (xs : List (List ℕ)) (w : Result Growth E) → u ≡ tree.Project x xs → p ≡ x → IfOk w (IsGrowth c n p) → IfOk w (IsGrowth c n u)
    told_project x p xs w is = told_again x p w (λ g h. subst (λ v. IsGrowth c n v g) (sym is) (of_project x xs g h))

    pub told_rename : {E : Type 0} (x p : Typed) (xs : List (List ℕ × List ℕ)) (w : Result Growth E) → u ≡ tree.Rename x xs → p ≡ x → IfOk w (IsGrowth c n p) → IfOk w (IsGrowth c n u)
    told_rename x p xs w is = told_again x p w (λ g h. subst (λ v. IsGrowth c n v g) (sym is) (of_rename x xs g h))

    pub told_unnest : {E : Type 0} (o : Nesting) (x p : Typed) (y : List ℕ) (w : Result Growth E) → u ≡ tree.Unnest o x y → p ≡ x → IfOk w (IsGrowth c n p) → IfOk w (IsGrowth c n u)
    told_unnest o x p y w is = told_again x p w (λ g h. subst (λ v. IsGrowth c n v g) (sym is) (of_unnest o x y g h))

    -- and of constraints
    pub watched_unary : (o : UnaryOperator) (x p : Typed) (g : Growth) (b : Bool) → u ≡ tree.Unary o x → p ≡ x → IsGrowth c n p g → b ≡ of_unary o g → b ≡ true → IsWatched c n u
    watched_unary o x p g b is d h same t = subst (IsWatched c n) (sym is) (unary_is o x g (subst (λ w. IsGrowth c n w g) d h) (sym same ∙ t))

    pub watched_both : (o : BinaryOperator) (x y p q : Typed) → u ≡ tree.Binary o x y → is_and o ≡ true → p ≡ x → q ≡ y → IsWatched c n p → IsWatched c n q → IsWatched c n u
    watched_both o x y p q is e d f h k = subst (IsWatched c n) (sym is) (both_are o x y e (subst (IsWatched c n) d h) (subst (IsWatched c n) f k))

    pub watched_comparison : (o : BinaryOperator) (x y p q : Typed) (g h : Growth) (b : Bool) → u ≡ tree.Binary o x y → p ≡ x → q ≡ y → IsGrowth c n p g → IsGrowth c n q h → b ≡ of_comparison o g h → b ≡ true → IsWatched c n u
    watched_comparison o x y p q g h b is d e j k same t = subst (IsWatched c n) (sym is) (comparison_is o x y g h (subst (λ w. IsGrowth c n w g) d j) (subst (λ w. IsGrowth c n w h) e k) (sym same ∙ t))

    pub watched_any : {E : Type 0} (w : Result Bool E) → IfOk w (λ b. b ≡ true → IsUnread c n u) → IfOk w (λ b. b ≡ true → IsWatched c n u)
    watched_any (Ok b) h = λ t. unread u (h t)
    watched_any (Err e) h = tt

  -- ---- relvars
  pub told_virtual : {E : Type 0} (m : ℕ) (v p : Typed) (w : Result Growth E) → slice_get c.origins m ≡ Some (origin.Virtual v) → p ≡ v → IfOk w (IsGrowth c n p) → IfOk w (IsGrowth c n (tree.Relvar m))
  told_virtual m v p (Ok growth.Unread) is d h = virtual_unread c n m v is (subst (IsUnread c n) d h)
  told_virtual m v p (Ok growth.Spreads) is d h = virtual m is (subst (Spreads c n) d h)
  told_virtual m v p (Ok growth.Other) is d h = tt
  told_virtual m v p (Err e) is d h = tt
