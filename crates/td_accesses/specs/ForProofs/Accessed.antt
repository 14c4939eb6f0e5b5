-- Insertions that are gathered, and statements that do not meet them.
use Rattle.std.specs.Prelude.{◌≡◌, ℕ, List}
use Rattle.std.specs.List.{Contains}
use Rattle.td_values.specs.Rows.{RowsData}
use Rattle.td_headings.specs.Catalogues.{CatalogueData}
use Rattle.td_headings.specs.declared.defined.Test.TheVariants as test
use Rattle.td_insertions.specs.Insertions.{Inserts}
use Rattle.td_accesses.specs.Commuting.{AllJudgeGrowth, AreApart, Commute, InsertBeside}
use Rattle.td_accesses.specs.Covering.{AreKept, IsAmong, KeepsWithin}
use Rattle.td_accesses.specs.Dependencies.{AreDependencies}
use Rattle.td_accesses.specs.ForProofs.Growing.{AreIn, AreIndexesGrown, AreLinked, AreLinksGrown}
use Rattle.td_accesses.specs.declared.accesses.Accesses.{Accesses}
use Rattle.td_accesses.specs.declared.accesses.Insertions.{Insertions}
use Rattle.td_accesses.specs.declared.dependencies.RelvarDependencies.{RelvarDependencies}

-- the relvar has a key, and its tests judge growth alone
pub record IsSuited (c : CatalogueData) (n : ℕ) : Type 0 where
  pub judge : AllJudgeGrowth c n
  pub key : List (List ℕ)
  pub has_key : Contains c.tests (test.Key n key)

-- h has what g has
pub record IsAddedTo (g h : Insertions) : Type 0 where
  pub relvar : h.relvar ≡ g.relvar
  pub reads : AreIn g.reads.items h.reads.items
  pub writes : AreIn g.writes.items h.writes.items
  pub indexes : AreIndexesGrown g.indexes.items h.indexes.items
  pub links : AreLinksGrown g.links.items h.links.items

-- for each of the first insertions one of the second has what it has
pub record AreInsertionsGrown (gs hs : List Insertions) : Type 0 where
  pub of : (g : Insertions) → Contains gs g → (h : Insertions) × Contains hs h × IsAddedTo g h

-- y has what x has
pub record AreAccessesGrown (x y : Accesses) : Type 0 where
  pub reads : AreIn x.reads.items y.reads.items
  pub writes : AreIn x.writes.items y.writes.items
  pub insertions : AreInsertionsGrown x.insertions.items y.insertions.items

-- the places and the tuples are among those of g
pub record IsToldBy (c : CatalogueData) (reads writes : List ℕ) (s : RowsData) (g : Insertions) : Type 0 where
  pub reads_ : AreIn reads g.reads.items
  pub writes_ : AreIn writes g.writes.items
  pub kept : AreKept c g.relvar s g.indexes.items
  pub linked : AreLinked s g.links.items

-- among those of one of these insertions, into the relvar at n
pub record IsToldIn (c : CatalogueData) (reads writes : List ℕ) (n : ℕ) (s : RowsData) (gs : List Insertions) : Type 0 where
  pub insertions : Insertions
  pub there : Contains gs insertions
  pub relvar : insertions.relvar ≡ n
  pub told : IsToldBy c reads writes s insertions

-- a text with these places that inserts s into the relvar at n is among one of these insertions
abbrev pub IsToldAmong : CatalogueData → List ℕ → List ℕ → ℕ → RowsData → List Insertions → Type 0
IsToldAmong c reads writes n s gs = (k : ℕ) (a : List ℕ) → KeepsWithin c k a reads writes → Inserts c k a n s → (g : Insertions) × Contains gs g × IsAmong c k a g

-- a text with these places does not meet the insertions
pub record IsClearOf (reads writes : List ℕ) (g : Insertions) : Type 0 where
  pub apart : (c : CatalogueData) (k l : ℕ) (a b : List ℕ) → IsAmong c k a g → KeepsWithin c l b reads writes → AreApart c k a l b

-- with these dependencies a text that inserts s into the relvar at n, another one, may be exchanged with the insertions
pub record IsBeside (ts : List RelvarDependencies) (n : ℕ) (s : RowsData) (g : Insertions) : Type 0 where
  pub apart : (c : CatalogueData) (k l : ℕ) (a b : List ℕ) → AreDependencies c ts → (g.relvar ≡ n → ⊥) → IsAmong c k a g → Inserts c l b n s → InsertBeside c k a l b

-- so may one with these places that inserts s into the relvar at n, whichever it is
pub record DiffersFrom (ts : List RelvarDependencies) (reads writes : List ℕ) (n : ℕ) (s : RowsData) (g : Insertions) : Type 0 where
  pub commute : (c : CatalogueData) (k l : ℕ) (a b : List ℕ) → AreDependencies c ts → IsAmong c k a g → KeepsWithin c l b reads writes → Inserts c l b n s → Commute c k a l b
