-- Which statements commute.
use Rattle.std.specs.Prelude.{◌≡◌, ◌⊎◌, ℕ, List}
use Rattle.std.specs.List.{Contains}
use Rattle.td_values.specs.Data.{Attrs}
use Rattle.td_values.specs.Rows.{RowsData}
use Rattle.td_tuples.specs.Parts.{cut}
use Rattle.td_relations.specs.Sets.{Has}
use Rattle.td_headings.specs.Catalogues.{CatalogueData}
use Rattle.td_headings.specs.declared.defined.Test.{Test}
use Rattle.td_headings.specs.declared.defined.Test.TheVariants as test
use Rattle.td_incremental.specs.Growth.{IsUnread, IsWatched}
use Rattle.td_incremental.specs.References.{RefersBy}
use Rattle.td_incremental.specs.Safety.{IsSafe}
use Rattle.td_insertions.specs.Insertions.{Inserts}
use Rattle.td_semantics.specs.Footprints.{IsInFootprint, IsTargetOfText}
use Rattle.td_typed_trees.specs.declared.tree.Typed.{Typed}

-- neither assigns a relvar on which the other one hangs
pub record AreApart (c : CatalogueData) (k : ℕ) (a : List ℕ) (l : ℕ) (b : List ℕ) : Type 0 where
  pub first : (n : ℕ) → IsTargetOfText c k a n → IsInFootprint c l b n → ⊥
  pub second : (n : ℕ) → IsTargetOfText c l b n → IsInFootprint c k a n → ⊥

-- what the test says of more tuples in the relvar at n goes by its key, or by these tuples alone, or is that they break
-- nothing
abbrev pub JudgesGrowth : CatalogueData → ℕ → Test → Type 0
JudgesGrowth c n (test.Key m key) = Unit {0}
JudgesGrowth c n (test.Constraint x u) = IsWatched c n u ⊎ IsSafe c n u

abbrev pub AllJudgeGrowth : CatalogueData → ℕ → Type 0
AllJudgeGrowth c n = (t : Test) → Contains c.tests t → JudgesGrowth c n t

-- the relvar at n has a key, and no tuple of s has its part at a key in one of t
pub record DifferByKeys (c : CatalogueData) (n : ℕ) (s t : RowsData) : Type 0 where
  pub key : List (List ℕ)
  pub has_key : Contains c.tests (test.Key n key)
  pub differ : (ks : List (List ℕ)) (a b : Attrs) → Contains c.tests (test.Key n ks) → Has s a → Has t b → cut ks a ≡ cut ks b → ⊥

-- both insert into one relvar, whose tests go by keys and by what is inserted, and what they insert differs by its keys
pub record InsertApart (c : CatalogueData) (k : ℕ) (a : List ℕ) (l : ℕ) (b : List ℕ) : Type 0 where
  pub relvar : ℕ
  pub one : RowsData
  pub other : RowsData
  pub first : Inserts c k a relvar one
  pub second : Inserts c l b relvar other
  pub judge : AllJudgeGrowth c relvar
  pub differ : DifferByKeys c relvar one other

-- u judges what is inserted into the relvar at m by that alone, and refers to the one at n; but no tuple of s refers to
-- one of t
pub record RefersElsewhere (c : CatalogueData) (m n : ℕ) (s t : RowsData) (u : Typed) : Type 0 where
  pub names : List (List ℕ)
  pub refers : RefersBy c n m names u
  pub watched : IsWatched c m u
  pub apart : (a b : Attrs) → Has s a → Has t b → cut names a ≡ cut names b → ⊥

-- what each constraint says of s in the relvar at m does not go by t in the one at n
abbrev pub AllJudgeBeside : CatalogueData → ℕ → ℕ → RowsData → RowsData → Type 0
AllJudgeBeside c m n s t = (x : List ℕ) (u : Typed) → Contains c.tests (test.Constraint x u) → IsUnread c n u ⊎ (IsSafe c m u ⊎ RefersElsewhere c m n s t u)

-- they insert into two relvars, and no constraint judges what the one inserts by what the other does
pub record InsertBeside (c : CatalogueData) (k : ℕ) (a : List ℕ) (l : ℕ) (b : List ℕ) : Type 0 where
  pub relvar : ℕ
  pub other_relvar : ℕ
  pub apart : relvar ≡ other_relvar → ⊥
  pub one : RowsData
  pub other : RowsData
  pub first : Inserts c k a relvar one
  pub second : Inserts c l b other_relvar other
  pub first_judged : AllJudgeBeside c relvar other_relvar one other
  pub second_judged : AllJudgeBeside c other_relvar relvar other one

-- the text a in dialect k and the text b in dialect l may follow each other in either order
abbrev pub Commute : CatalogueData → ℕ → List ℕ → ℕ → List ℕ → Type 0
Commute c k a l b = AreApart c k a l b ⊎ (InsertApart c k a l b ⊎ InsertBeside c k a l b)
