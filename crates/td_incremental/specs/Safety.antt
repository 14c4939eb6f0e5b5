-- A base relvar grows, and nothing else that a constraint reads changes: where it stays true.
use Rattle.std.specs.Prelude.{◌≡◌, ℕ, List, Some, slice_get}
use Rattle.td_syntax.specs.declared.tree.BinaryOperator.TheVariants as binary
use Rattle.td_syntax.specs.declared.tree.UnaryOperator.TheVariants as unary
use Rattle.td_typed_trees.specs.declared.tree.Typed.{Typed}
use Rattle.td_typed_trees.specs.declared.tree.Typed.TheVariants as tree
use Rattle.td_headings.specs.Catalogues.{CatalogueData}
use Rattle.td_headings.specs.declared.defined.Origin.TheVariants as origin
use Rattle.td_incremental.specs.Growth.{IsUnread}

-- whatever n gains, u has all that it had; no term in it could raise an error
pub data Widens (c : CatalogueData) (n : ℕ) : Typed → Type 0 where
  itself : Widens c n (tree.Relvar n)
  virtual : {u : Typed} (m : ℕ)
      → slice_get c.origins m ≡ Some (origin.Virtual u) → Widens c n u → Widens c n (tree.Relvar m)
  project : {r : Typed} (xs : List (List ℕ)) → Widens c n r → Widens c n (tree.Project r xs)
  rename : {r : Typed} (xs : List (List ℕ × List ℕ)) → Widens c n r → Widens c n (tree.Rename r xs)

-- where u was true, it is true whatever n gained
pub data IsSafe (c : CatalogueData) (n : ℕ) : Typed → Type 0 where
  matched : {s : Typed} (r : Typed)
      → IsUnread c n r → Widens c n s → IsSafe c n (tree.Unary unary.IsEmpty (tree.Binary binary.NotMatching r s))
  within : {s : Typed} (r : Typed) → IsUnread c n r → Widens c n s → IsSafe c n (tree.Binary binary.AtMost r s)
  around : {r : Typed} (s : Typed) → Widens c n r → IsUnread c n s → IsSafe c n (tree.Binary binary.AtLeast r s)
  unread : (u : Typed) → IsUnread c n u → IsSafe c n u
  both : {u v : Typed} → IsSafe c n u → IsSafe c n v → IsSafe c n (tree.Binary binary.And u v)
