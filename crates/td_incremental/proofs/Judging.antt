-- What the program comes to of safe constraints.
use Rattle.std.proofs.Common.{◌≡◌, ℕ, Bool, true, List, Some, Result, Ok, Err, IfOk, sym, subst}
use Rattle.std.specs.Prelude.{slice_get}
use Rattle.td_syntax.specs.declared.tree.BinaryOperator.{BinaryOperator}
use Rattle.td_syntax.specs.declared.tree.BinaryOperator.TheVariants as binary
use Rattle.td_syntax.specs.declared.tree.UnaryOperator.TheVariants as unary
use Rattle.td_typed_trees.specs.declared.tree.Typed.{Typed}
use Rattle.td_typed_trees.specs.declared.tree.Typed.TheVariants as tree
use Rattle.td_headings.specs.Catalogues.{CatalogueData}
use Rattle.td_headings.specs.declared.defined.Origin.TheVariants as origin
use Rattle.td_incremental.specs.Growth.{IsUnread}
use Rattle.td_incremental.specs.Safety as safety
use Rattle.td_incremental.specs.Safety.{IsSafe, Widens}
use Rattle.td_incremental.specs.ForProofs.Deciding.{is_and, is_at_least, is_at_most, is_not_matching}

module _ (c : CatalogueData) (n : ℕ) where
  -- ---- what has all that it had
  pub wide_virtual : (m : ℕ) (v p : Typed) (b : Bool) → slice_get c.origins m ≡ Some (origin.Virtual v) → p ≡ v → (b ≡ true → Widens c n p) → b ≡ true → Widens c n (tree.Relvar m)
  wide_virtual m v p b is d h t = safety.virtual m is (subst (Widens c n) d (h t))

  module _ (u : Typed) where
    pub wide_project : (x p : Typed) (xs : List (List ℕ)) (b : Bool) → u ≡ tree.Project x xs → p ≡ x → (b ≡ true → Widens c n p) → b ≡ true → Widens c n u
    wide_project x p xs b is d h t = subst (Widens c n) (sym is) (safety.project xs (subst (Widens c n) d (h t)))

    pub wide_rename : (x p : Typed) (xs : List (List ℕ × List ℕ)) (b : Bool) → u ≡ tree.Rename x xs → p ≡ x → (b ≡ true → Widens c n p) → b ≡ true → Widens c n u
    wide_rename x p xs b is d h t = subst (Widens c n) (sym is) (safety.rename xs (subst (Widens c n) d (h t)))

  -- ---- constraints
  pub within_is : (o : BinaryOperator) (x y : Typed) → is_at_most o ≡ true → IsUnread c n x → Widens c n y → IsSafe c n (tree.Binary o x y)
  within_is binary.AtMost x y is h k = safety.within x h k
  within_is o x y is h k = cc

  pub around_is : (o : BinaryOperator) (x y : Typed) → is_at_least o ≡ true → Widens c n x → IsUnread c n y → IsSafe c n (tree.Binary o x y)
  around_is binary.AtLeast x y is h k = safety.around y h k
  around_is o x y is h k = cc

  matched_is : (o : BinaryOperator) (x y : Typed) → is_not_matching o ≡ true → IsUnread c n x → Widens c n y → IsSafe c n (tree.Unary unary.IsEmpty (tree.Binary o x y))
  matched_is binary.NotMatching x y is h k = safety.matched x h k
  matched_is o x y is h k = cc

  both_are : (o : BinaryOperator) (x y : Typed) → is_and o ≡ true → IsSafe c n x → IsSafe c n y → IsSafe c n (tree.Binary o x y)
  both_are binary.And x y is h k = safety.both h k
  both_are o x y is h k = cc

  module _ (u : Typed) where
    pub safe_matched : (o : BinaryOperator) (x y p q : Typed) → u ≡ tree.Binary o x y → is_not_matching o ≡ true → p ≡ x → q ≡ y → IsUnread c n p → Widens c n q → IsSafe c n (tree.Unary unary.IsEmpty u)
    safe_matched o x y p q is e d f h k = subst (λ v. IsSafe c n (tree.Unary unary.IsEmpty v)) (sym is) (matched_is o x y e (subst (IsUnread c n) d h) (subst (Widens c n) f k))

    pub safe_both : (o : BinaryOperator) (x y p q : Typed) → u ≡ tree.Binary o x y → is_and o ≡ true → p ≡ x → q ≡ y → IsSafe c n p → IsSafe c n q → IsSafe c n u
    safe_both o x y p q is e d f h k = subst (IsSafe c n) (sym is) (both_are o x y e (subst (IsSafe c n) d h) (subst (IsSafe c n) f k))

    pub safe_any : {E : Type 0} (w : Result Bool E) → IfOk w (λ b. b ≡ true → IsUnread c n u) → IfOk w (λ b. b ≡ true → IsSafe c n u)
    safe_any (Ok b) h = λ t. safety.unread u (h t)
    safe_any (Err e) h = tt
