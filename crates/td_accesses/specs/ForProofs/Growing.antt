-- Accesses that grow, and tuples that an index lacks.
use Rattle.std.specs.Prelude.{◌≡◌, ℕ, List}
use Rattle.std.specs.List.{Contains}
use Rattle.td_values.specs.Data.{Attrs}
use Rattle.td_values.specs.Rows.{RowsData}
use Rattle.td_tuples.specs.Parts.{cut}
use Rattle.td_relations.specs.Sets.{Has}
use Rattle.td_algebra.specs.KeyIndexes.{KeyIndexData}
use Rattle.td_headings.specs.declared.defined.Test.{Test}
use Rattle.td_headings.specs.declared.defined.Test.TheVariants as test
use Rattle.td_incremental.specs.declared.references.Reference.{Reference}

-- the second list has the places of the first
abbrev pub AreIn : List ℕ → List ℕ → Type 0
AreIn xs ys = (n : ℕ) → Contains xs n → Contains ys n

-- y has the tuples of x, by the same key
pub record IsIndexGrown (x y : KeyIndexData) : Type 0 where
  pub key : y.key ≡ x.key
  pub tuples : (t : Attrs) → Contains x.tuples t → Contains y.tuples t

-- for each of the first indexes one of the second has its tuples
pub record AreIndexesGrown (xs ys : List KeyIndexData) : Type 0 where
  pub of : (x : KeyIndexData) → Contains xs x → (y : KeyIndexData) × Contains ys y × IsIndexGrown x y

-- an index by this key has the tuples of s
pub record IsBy (key : List (List ℕ)) (s : RowsData) (xs : List KeyIndexData) : Type 0 where
  pub index : KeyIndexData
  pub there : Contains xs index
  pub by : index.key ≡ key
  pub tuples : (t : Attrs) → Has s t → Contains index.tuples t

-- where the test is a key of the relvar at n, an index by it does
pub record IsKeptFor (n : ℕ) (s : RowsData) (xs : List KeyIndexData) (t : Test) : Type 0 where
  pub by : (key : List (List ℕ)) → t ≡ test.Key n key → IsBy key s xs

-- by each key of the relvar at n among these tests
pub record AreAllBy (tests : List Test) (n : ℕ) (s : RowsData) (xs : List KeyIndexData) : Type 0 where
  pub of : (key : List (List ℕ)) → Contains tests (test.Key n key) → IsBy key s xs

-- one of these tests is a key of the relvar at n
pub record HasKey (tests : List Test) (n : ℕ) : Type 0 where
  pub key : List (List ℕ)
  pub there : Contains tests (test.Key n key)

-- no tuple of the index has t's part at its key
pub record LacksPart (x : KeyIndexData) (t : Attrs) : Type 0 where
  pub none : (u : Attrs) → Contains x.tuples u → cut x.key u ≡ cut x.key t → ⊥

-- nor that of another tuple of s
pub record LacksParts (s : RowsData) (x : KeyIndexData) : Type 0 where
  pub none : (t u : Attrs) → Has s t → Contains x.tuples u → cut x.key u ≡ cut x.key t → ⊥

-- each of these indexes has the tuples of s
pub record AreLinked (s : RowsData) (xs : List KeyIndexData) : Type 0 where
  pub all : (x : KeyIndexData) → Contains xs x → (t : Attrs) → Has s t → Contains x.tuples t

-- each of the second indexes has the tuples of one of the first, by the same key
pub record AreLinksGrown (xs ys : List KeyIndexData) : Type 0 where
  pub from : (y : KeyIndexData) → Contains ys y → (x : KeyIndexData) × Contains xs x × IsIndexGrown x y

-- r refers to another relvar than the one at n, or one of these indexes is by its names and lacks the values of s
pub record IsElsewhere (n : ℕ) (xs : List KeyIndexData) (s : RowsData) (r : Reference) : Type 0 where
  pub lacks : r.relvar ≡ n → (x : KeyIndexData) × Contains xs x × (x.key ≡ r.names.items) × LacksParts s x
