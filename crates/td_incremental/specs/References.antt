-- A base relvar loses tuples, and each leaves its values at some names to another one: where a reference stays true.
-- And what a reference is over the values that were lost.
use Rattle.std.specs.Prelude.{◌≡◌, ◌⊎◌, ◌&&◌, ℕ, Bool, true, false, List, Some, Ok, slice_get}
use Rattle.td_values.specs.Data.{Attrs}
use Rattle.td_values.specs.Headings.{Header}
use Rattle.td_values.specs.Rows.{AreRows, RowsData}
use Rattle.td_syntax.specs.declared.tree.BinaryOperator.{BinaryOperator}
use Rattle.td_syntax.specs.declared.tree.BinaryOperator.TheVariants as binary
use Rattle.td_syntax.specs.declared.tree.Named.{Named}
use Rattle.td_syntax.specs.declared.tree.UnaryOperator.TheVariants as unary
use Rattle.td_tuples.specs.Parts.{Fits, columns_in, cut, is_in, names_of}
use Rattle.td_relations.specs.Sets.{Has}
use Rattle.td_typed_trees.specs.declared.tree.Typed.{Typed}
use Rattle.td_typed_trees.specs.declared.tree.Typed.TheVariants as tree
use Rattle.td_headings.specs.Catalogues.{CatalogueData}
use Rattle.td_headings.specs.Reached.{is_base}
use Rattle.td_meaning.specs.Mean.{Relvars}
use Rattle.td_semantics.specs.Trees.{all_relvars}
use Rattle.td_incremental.specs.Growth.{IsUnread}

-- from old to now each tuple that the relvar at n had has one there with its part at these names
pub record KeepsParts (old now : Relvars) (n : ℕ) (names : List (List ℕ)) : Type 0 where
  pub before : RowsData
  pub after : RowsData
  pub was : old n ≡ Ok before
  pub is : now n ≡ Ok after
  pub one_heading : before.heading ≡ after.heading
  pub kept : (t : Attrs) → Has before t → (u : Attrs) × Has after u × (cut names u ≡ cut names t)

-- what each relvar has, base or virtual, is of its heading, where it raises no error
abbrev pub AreHeaded : CatalogueData → Relvars → Type 0
AreHeaded c relvars = (m : ℕ) (v : Named Header) (r : RowsData) → slice_get c.schema.relvars m ≡ Some v → all_relvars c relvars m ≡ Ok r → r.heading ≡ v.value

-- each of the first names is one of the second
abbrev pub AreAmong : List (List ℕ) → List (List ℕ) → Type 0
AreAmong xs ys = (x : List ℕ) → is_in xs x ≡ true → is_in ys x ≡ true

-- the result has the heading of the left operand
abbrev pub has_left_heading : BinaryOperator → Bool
has_left_heading binary.Matching = true
has_left_heading binary.NotMatching = true
has_left_heading binary.Minus = true
has_left_heading binary.Intersect = true
has_left_heading o = false

-- the attributes of u are among these
pub data HasNames (c : CatalogueData) (xs : List (List ℕ)) : Typed → Type 0 where
  relvar : (m : ℕ) (v : Named Header) → slice_get c.schema.relvars m ≡ Some v → AreAmong (names_of v.value) xs → HasNames c xs (tree.Relvar m)
  project : (r : Typed) (ns : List (List ℕ)) → AreAmong ns xs → HasNames c xs (tree.Project r ns)
  where_ : {r : Typed} (b : Typed) → HasNames c xs r → HasNames c xs (tree.Where r b)
  left : {r : Typed} (o : BinaryOperator) (s : Typed) → has_left_heading o ≡ true → HasNames c xs r → HasNames c xs (tree.Binary o r s)

-- u says that each tuple of a has its like in b
pub data SaysWithin (a b : Typed) : Typed → Type 0 where
  matched : SaysWithin a b (tree.Unary unary.IsEmpty (tree.Binary binary.NotMatching a b))
  without : SaysWithin a b (tree.Unary unary.IsEmpty (tree.Binary binary.Minus a b))
  at_most : SaysWithin a b (tree.Binary binary.AtMost a b)
  at_least : SaysWithin a b (tree.Binary binary.AtLeast b a)

-- u refers to the relvar at n by its values at these names, and reads nothing else of it
pub data Refers (c : CatalogueData) (n : ℕ) (xs : List (List ℕ)) : Typed → Type 0 where
  whole : (r : Typed) → IsUnread c n r → HasNames c xs r → Refers c n xs (tree.Unary unary.IsEmpty (tree.Binary binary.NotMatching r (tree.Relvar n)))
  part : (r : Typed) (ns : List (List ℕ)) (u : Typed) → SaysWithin r (tree.Project (tree.Relvar n) ns) u → IsUnread c n r → AreAmong ns xs → Refers c n xs u
  unread : (u : Typed) → IsUnread c n u → Refers c n xs u
  both : {u v : Typed} → Refers c n xs u → Refers c n xs v → Refers c n xs (tree.Binary binary.And u v)

-- ---- one base relvar that refers to another

-- u is the relvar at m, of heading h, or its part at some names; these are the names, or all
pub data IsPartOf (m : ℕ) (h : Header) (names : List (List ℕ)) : Typed → Type 0 where
  itself : names ≡ names_of h → IsPartOf m h names (tree.Relvar m)
  at_names : IsPartOf m h names (tree.Project (tree.Relvar m) names)

-- u says that each tuple of the base relvar at m has its values at these names in one of the relvar at n; they are
-- those that the parts of both have
pub record RefersBy (c : CatalogueData) (n m : ℕ) (names : List (List ℕ)) (u : Typed) : Type 0 where
  pub a : Typed
  pub b : Typed
  pub says : SaysWithin a b u
  pub one : Named Header
  pub other : Named Header
  pub one_there : slice_get c.schema.relvars m ≡ Some one
  pub other_there : slice_get c.schema.relvars n ≡ Some other
  pub one_names : List (List ℕ)
  pub other_names : List (List ℕ)
  pub of_one : IsPartOf m one.value one_names a
  pub of_other : IsPartOf n other.value other_names b
  pub base : is_base (slice_get c.origins m) ≡ true
  pub apart : m ≡ n → ⊥
  pub shared : (x : List ℕ) → is_in names x ≡ ((is_in (names_of one.value) x && is_in one_names x) && (is_in (names_of other.value) x && is_in other_names x))

-- the relvar at n has r, of its heading
pub record HasRows (c : CatalogueData) (relvars : Relvars) (n : ℕ) (r : RowsData) : Type 0 where
  pub is : relvars n ≡ Ok r
  pub fit : (t : Attrs) → Has r t → Fits r.heading t
  pub heading : (v : Named Header) → slice_get c.schema.relvars n ≡ Some v → r.heading ≡ v.value

-- from old to now each tuple that the relvar at n had has one there with its part at these names, or that part is one
-- of these, which are all of tuples that it had
pub record GivesUp (old now : Relvars) (n : ℕ) (names : List (List ℕ)) (parts : RowsData) : Type 0 where
  pub before : RowsData
  pub after : RowsData
  pub was : old n ≡ Ok before
  pub is : now n ≡ Ok after
  pub one_heading : before.heading ≡ after.heading
  pub was_rows : AreRows before.heading before.tuples
  pub heading : parts.heading ≡ columns_in names before.heading
  pub either : (t : Attrs) → Has before t → ((u : Attrs) × Has after u × (cut names u ≡ cut names t)) ⊎ Has parts (cut names t)
  pub only : (p : Attrs) → Has parts p → (t : Attrs) × Has before t × (p ≡ cut names t)
