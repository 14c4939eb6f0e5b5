-- Relvars and their headings, and the names that parts of two share.
use Rattle.std.specs.Prelude.{◌≡◌, ◌&&◌, ℕ, Bool, List, Some, slice_get}
use Rattle.td_values.specs.Headings.{Header}
use Rattle.td_syntax.specs.declared.tree.Named.{Named}
use Rattle.td_typed_trees.specs.declared.tree.Typed.{Typed}
use Rattle.td_tuples.specs.Parts.{is_in, names_of}
use Rattle.td_headings.specs.Catalogues.{CatalogueData}
use Rattle.td_incremental.specs.References.{IsPartOf}

-- the relvar at n has this heading
pub record IsHeadingAt (c : CatalogueData) (n : ℕ) (h : Header) : Type 0 where
  pub name : List ℕ
  pub heading : slice_get c.schema.relvars n ≡ Some (record { name = name; value = h })

-- a name of both headings that is one of these
abbrev pub is_shared : Header → Header → List (List ℕ) → List ℕ → Bool
is_shared h k names x = (is_in (names_of h) x && is_in (names_of k) x) && is_in names x

-- a is a part of the relvar at m and b of the one at n, and these are the names that both have
pub record AreBetween (c : CatalogueData) (m n : ℕ) (a b : Typed) (names : List (List ℕ)) : Type 0 where
  pub one : Named Header
  pub other : Named Header
  pub one_there : slice_get c.schema.relvars m ≡ Some one
  pub other_there : slice_get c.schema.relvars n ≡ Some other
  pub one_names : List (List ℕ)
  pub other_names : List (List ℕ)
  pub of_one : IsPartOf m one.value one_names a
  pub of_other : IsPartOf n other.value other_names b
  pub shared : (x : List ℕ) → is_in names x ≡ ((is_in (names_of one.value) x && is_in one_names x) && (is_in (names_of other.value) x && is_in other_names x))
