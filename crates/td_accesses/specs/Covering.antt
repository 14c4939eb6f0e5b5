-- What is kept of what statements access.
use Rattle.std.specs.Prelude.{◌≡◌, ◌⊎◌, ℕ, List}
use Rattle.std.specs.List.{Contains}
use Rattle.td_values.specs.Data.{Attrs}
use Rattle.td_values.specs.Rows.{RowsData}
use Rattle.td_relations.specs.Sets.{Has}
use Rattle.td_algebra.specs.KeyIndexes.{KeyIndexData}
use Rattle.td_headings.specs.Catalogues.{CatalogueData}
use Rattle.td_headings.specs.declared.defined.Test.TheVariants as test
use Rattle.td_insertions.specs.Insertions.{Inserts}
use Rattle.td_semantics.specs.Footprints.{IsInFootprint, IsTargetOfText}
use Rattle.td_accesses.specs.Commuting.{AllJudgeGrowth}
use Rattle.td_accesses.specs.declared.accesses.Accesses.{Accesses}
use Rattle.td_accesses.specs.declared.accesses.Insertions.{Insertions}

-- the text hangs on relvars among the first places, and assigns relvars among the others
pub record KeepsWithin (c : CatalogueData) (k : ℕ) (a : List ℕ) (reads writes : List ℕ) : Type 0 where
  pub footprint : (n : ℕ) → IsInFootprint c k a n → Contains reads n
  pub targets : (n : ℕ) → IsTargetOfText c k a n → Contains writes n

-- for each key of the relvar there is an index that has these tuples
abbrev pub AreKept : CatalogueData → ℕ → RowsData → List KeyIndexData → Type 0
AreKept c n s xs = (ks : List (List ℕ)) → Contains c.tests (test.Key n ks) → (x : KeyIndexData) × Contains xs x × (x.key ≡ ks) × ((t : Attrs) → Has s t → Contains x.tuples t)

-- the text is an insertion into the relvar of these insertions, which has a key and whose tests judge growth alone, and
-- its tuples are kept among theirs
pub record IsAmong (c : CatalogueData) (k : ℕ) (a : List ℕ) (g : Insertions) : Type 0 where
  pub tuples : RowsData
  pub inserts : Inserts c k a g.relvar tuples
  pub within : KeepsWithin c k a g.reads.items g.writes.items
  pub judge : AllJudgeGrowth c g.relvar
  pub key : List (List ℕ)
  pub has_key : Contains c.tests (test.Key g.relvar key)
  pub kept : AreKept c g.relvar tuples g.indexes.items
  pub linked : (x : KeyIndexData) → Contains g.links.items x → (t : Attrs) → Has tuples t → Contains x.tuples t

-- what the text accesses is among the accesses
abbrev pub Covers : CatalogueData → Accesses → ℕ → List ℕ → Type 0
Covers c x k a = KeepsWithin c k a x.reads.items x.writes.items ⊎ ((g : Insertions) × Contains x.insertions.items g × IsAmong c k a g)
