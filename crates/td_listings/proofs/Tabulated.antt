-- What is told of a relvar that has a table.
use Rattle.std.proofs.Common.{◌≡◌, ℕ, true, List, Result, Ok, Err, sym, ◌∙◌}
use Rattle.td_headings.specs.Catalogues.{CatalogueData}
use Rattle.td_semantics.specs.declared.answer.Answer.{Answer}
use Rattle.td_replica.specs.Seen.{Seen}
use Rattle.td_listings.specs.Calls.{HasTable, Tabulates}
use Rattle.td_listings.specs.ForProofs.Asked.{WasToldAt}
use Rattle.td_listings.specs.ForProofs.Written.{Renders}
use Rattle.td_listings.specs.declared.error.TableError.{TableError}
use Rattle.td_listings.specs.declared.error.TableError.TheVariants.{Unknown, NoAttributes, Broken, Raised, OutOfMemory}
use Rattle.td_values.specs.Rows.{RowsData}

pub tabulated : (c : CatalogueData) (s : Seen) (x : List ℕ) (n : ℕ) (a : Answer RowsData) → s.live ≡ true → HasTable c x n → WasToldAt s n a → (r : Result (List ℕ) TableError) → Renders a r → Tabulates c s x r
tabulated c s x n a live has told (Ok text) (relation, is, records) =
    (live, n, has, record { database = told.0; relation = relation; leaves = told.1; value = told.2 ∙ is; records = records })
tabulated c s x n a live has told (Err (Raised e)) h = (live, n, has, record { database = told.0; leaves = told.1; raises = told.2 ∙ h })
tabulated c s x n a live has told (Err OutOfMemory) h = (live, n, has)
tabulated c s x n a live has told (Err Unknown) h = absurd h
tabulated c s x n a live has told (Err NoAttributes) h = absurd h
tabulated c s x n a live has told (Err Broken) h = absurd h
