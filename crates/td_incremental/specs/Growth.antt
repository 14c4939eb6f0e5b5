-- A base relvar gains tuples, and nothing else that a constraint reads changes: where it may be judged over these
-- tuples alone.
use Rattle.std.specs.Prelude.{◌≡◌, ◌⊎◌, ◌==◌, if◌then◌else◌, ℕ, Bool, true, false, List, Some, Ok, slice_get}
use Rattle.std.specs.List.{All}
use Rattle.td_values.specs.Data.{Attrs}
use Rattle.td_values.specs.Rows.{RowsData}
use Rattle.td_syntax.specs.declared.tree.BinaryOperator.{BinaryOperator}
use Rattle.td_syntax.specs.declared.tree.BinaryOperator.TheVariants as binary
use Rattle.td_syntax.specs.declared.tree.Nesting.{Nesting}
use Rattle.td_syntax.specs.declared.tree.Nesting.TheVariants as nesting
use Rattle.td_syntax.specs.declared.tree.UnaryOperator.TheVariants as unary
use Rattle.td_tuples.specs.declared.items.Item.{Item}
use Rattle.td_relations.specs.Sets.{Has}
use Rattle.td_typed_trees.specs.declared.tree.Typed.{Typed}
use Rattle.td_typed_trees.specs.declared.tree.Typed.TheVariants as tree
use Rattle.td_headings.specs.Catalogues.{CatalogueData}
use Rattle.td_headings.specs.Reached.{ReadsRelvar, is_base}
use Rattle.td_headings.specs.declared.defined.Origin.TheVariants as origin
use Rattle.td_meaning.specs.Mean.{Relvars}

-- from old to now the relvar at n gained the tuples of i: it has them, and no others that it had not; it may have lost
-- some
pub record Gains (old now : Relvars) (n : ℕ) (i : RowsData) : Type 0 where
  pub before : RowsData
  pub after : RowsData
  pub was : old n ≡ Ok before
  pub is : now n ≡ Ok after
  pub old_heading : before.heading ≡ after.heading
  pub new_heading : i.heading ≡ after.heading
  pub either : (t : Attrs) → Has after t → Has before t ⊎ Has i t
  pub new : (t : Attrs) → Has i t → Has after t

-- from old to now the relvar at n lost no tuple
pub record Grows (old now : Relvars) (n : ℕ) : Type 0 where
  pub before : RowsData
  pub after : RowsData
  pub was : old n ≡ Ok before
  pub is : now n ≡ Ok after
  pub one_heading : before.heading ≡ after.heading
  pub kept : (t : Attrs) → Has before t → Has after t

-- the relvars agree on what u reads, and where no base relvar is
abbrev pub AgreeOn : CatalogueData → Typed → Relvars → Relvars → Type 0
AgreeOn c u r s = (m : ℕ) → (is_base (slice_get c.origins m) ≡ true → ReadsRelvar c.origins u m) → r m ≡ s m

-- there, but for the relvar at n
abbrev pub AgreeBeside : CatalogueData → Typed → ℕ → Relvars → Relvars → Type 0
AgreeBeside c u n r s = (m : ℕ) → (m ≡ n → ⊥) → (is_base (slice_get c.origins m) ≡ true → ReadsRelvar c.origins u m) → r m ≡ s m

-- the relvars, but of the one at n these tuples alone
abbrev pub narrowed : ℕ → RowsData → Relvars → Relvars
narrowed n i relvars m = if m == n then Ok i else relvars m

-- nothing in u reads the relvar at n
abbrev pub IsUnread : CatalogueData → ℕ → Typed → Type 0
IsUnread c n u = ReadsRelvar c.origins u n → ⊥

-- each tuple of the result comes of one tuple of the left operand, whatever else the left one has; of the right operand
abbrev pub goes_by_left : BinaryOperator → Bool
goes_by_left binary.Join = true
goes_by_left binary.Compose = true
goes_by_left binary.Intersect = true
goes_by_left binary.Matching = true
goes_by_left binary.NotMatching = true
goes_by_left binary.Minus = true
goes_by_left o = false

abbrev pub goes_by_right : BinaryOperator → Bool
goes_by_right binary.Join = true
goes_by_right binary.Compose = true
goes_by_right binary.Intersect = true
goes_by_right binary.Matching = true
goes_by_right o = false

-- u is made tuple by tuple of the relvar at n, and nothing else in it reads n: what it gains is what it makes of what n
-- gains
pub data Spreads (c : CatalogueData) (n : ℕ) : Typed → Type 0 where
  itself : Spreads c n (tree.Relvar n)
  virtual : {u : Typed} (m : ℕ)
      → slice_get c.origins m ≡ Some (origin.Virtual u) → Spreads c n u → Spreads c n (tree.Relvar m)
  where_ : {r : Typed} (b : Typed) → Spreads c n r → IsUnread c n b → Spreads c n (tree.Where r b)
  project : {r : Typed} (xs : List (List ℕ)) → Spreads c n r → Spreads c n (tree.Project r xs)
  rename : {r : Typed} (xs : List (List ℕ × List ℕ)) → Spreads c n r → Spreads c n (tree.Rename r xs)
  extend : {r : Typed} (xs : List (Item Typed))
      → Spreads c n r → All (λ x. IsUnread c n x.term) xs → Spreads c n (tree.Extend r xs)
  wrap : {r : Typed} (xs : List (List ℕ)) (x : List ℕ) → Spreads c n r → Spreads c n (tree.Nest nesting.Wrap r xs x)
  open_ : {r : Typed} (o : Nesting) (x : List ℕ) → Spreads c n r → Spreads c n (tree.Unnest o r x)
  left : {r : Typed} (o : BinaryOperator) (s : Typed)
      → goes_by_left o ≡ true → Spreads c n r → IsUnread c n s → Spreads c n (tree.Binary o r s)
  right : {s : Typed} (o : BinaryOperator) (r : Typed)
      → goes_by_right o ≡ true → IsUnread c n r → Spreads c n s → Spreads c n (tree.Binary o r s)
  union : {r s : Typed} → Spreads c n r → Spreads c n s → Spreads c n (tree.Binary binary.Union r s)

-- where u was true, it is true if it is true of what n gained
pub data IsWatched (c : CatalogueData) (n : ℕ) : Typed → Type 0 where
  empty : {r : Typed} → Spreads c n r → IsWatched c n (tree.Unary unary.IsEmpty r)
  within : {r : Typed} (s : Typed) → Spreads c n r → IsUnread c n s → IsWatched c n (tree.Binary binary.AtMost r s)
  around : {s : Typed} (r : Typed) → IsUnread c n r → Spreads c n s → IsWatched c n (tree.Binary binary.AtLeast r s)
  unread : (u : Typed) → IsUnread c n u → IsWatched c n u
  both : {u v : Typed} → IsWatched c n u → IsWatched c n v → IsWatched c n (tree.Binary binary.And u v)
