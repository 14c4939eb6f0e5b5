-- What two sites that hold the same tabulate of a relvar.
use Rattle.std.proofs.Common.{◌≡◌, inl, inr, ℕ, List, Option, None, Some, Result, Ok, Err, refl, sym, ap, subst, ◌∙◌}
use Rattle.std.specs.FinMap as by_name
use Rattle.td_values.specs.Headings.{Header}
use Rattle.td_values.specs.Rows.{RowsData}
use Rattle.td_values.specs.declared.raises.Raise.{Raise}
use Rattle.td_syntax.specs.declared.tree.Named.{Named}
use Rattle.td_algebra.specs.declared.errors.Stop.{Stop}
use Rattle.td_schema.specs.Schemas.{relvar_named}
use Rattle.td_headings.specs.Catalogues.{CatalogueData}
use Rattle.td_semantics.specs.Databases.{DatabaseData}
use Rattle.td_semantics.specs.Raises.{stop_of}
use Rattle.td_replica.specs.Laws.{HoldTheSame}
use Rattle.td_replica.specs.Seen.{Leaves, Seen}
use Rattle.td_replica.proofs.Agreeing.{sites_agree}
use Rattle.td_meeting.specs.Meetings.{AreOpen}
use Rattle.td_listings.specs.Calls.{HasNoAttributes, HasTable, Tabulates}
use Rattle.td_listings.specs.Laws.{TablesAgree}
use Rattle.td_listings.specs.Sites.{IsRaised, IsTable}
use Rattle.td_listings.specs.Texts.{relvar_value}
use Rattle.td_listings.specs.declared.error.TableError.{TableError}
use Rattle.td_listings.specs.declared.error.TableError.TheVariants as table_error
use Rattle.td_agreement.proofs.Meanings.{one_raise}
use Rattle.td_answers.specs.Answers.{table_answer}
use Rattle.td_answers.specs.Faults.{raised_line}
use Rattle.td_printed.specs.Questions.{ArePrintedAlike}
use Rattle.td_printed.proofs.Queries.{closed}

-- ---- a name is of one relvar, at one place

none_some : {A P : Type 0} (a : A) → ◌≡◌ {A = Option A} None (Some a) → P
none_some a h = cc

some_same : {A : Type 0} (a b : A) → Some a ≡ Some b → a ≡ b
some_same a b h = cc

ok_err : {P : Type 0} (r : RowsData) (e : Stop) → ◌≡◌ {A = Result RowsData Stop} (Ok r) (Err e) → P
ok_err r e h = cc

err_same : (e f : Stop) → ◌≡◌ {A = Result RowsData Stop} (Err e) (Err f) → e ≡ f
err_same e f h = cc

module _ (c : CatalogueData) (x : List ℕ) where
  -- a name of no relvar has no table, and no heading
  never_named : {P : Type 0} (n : ℕ) (v : Named Header) → relvar_named c.schema x ≡ None
      → relvar_named c.schema x ≡ Some (n, v) → P
  never_named n v none is = none_some (n, v) (sym none ∙ is)

  one_place : (n m : ℕ) → HasTable c x n → HasTable c x m → n ≡ m
  one_place n m p q =
      let same = some_same (n, p.relvar) (m, q.relvar) (sym p.named ∙ q.named) in
      ap (λ (z : ℕ × Named Header). z.0) same

  -- a relvar has attributes, or it has none
  never_both : {P : Type 0} (n : ℕ) → HasTable c x n → HasNoAttributes c x → P
  never_both n p q =
      let same = some_same (n, p.relvar) (q.place, q.relvar) (sym p.named ∙ q.named) in
      absurd (p.attributes (ap (λ (z : ℕ × Named Header). by_name.len z.1.value) same ∙ q.attributes))

-- ---- a relvar has one value at both sites

module _ (s t : Seen) (same : HoldTheSame s t) where
  one_value : (d e : DatabaseData) → Leaves s d → Leaves t e → (n m : ℕ) → n ≡ m → relvar_value d n ≡ relvar_value e m
  one_value d e p q n m place =
      let one = (sites_agree s t same p.0 q.0 d e p.1 q.1).1 in
      ap (λ (u : DatabaseData). relvar_value u n) one ∙ ap (relvar_value e) place

  never_raised : {P : Type 0} (n m : ℕ) (text : List ℕ) (e : Raise) → n ≡ m → IsTable s n text → IsRaised t m e → P
  never_raised n m text e place p q =
      let value = one_value p.database q.database p.leaves q.leaves n m place in
      ok_err p.relation (stop_of e) (sym p.value ∙ value ∙ q.raises)

  raised_never : {P : Type 0} (n m : ℕ) (text : List ℕ) (e : Raise) → n ≡ m → IsRaised s n e → IsTable t m text → P
  raised_never n m text e place p q =
      let value = one_value p.database q.database p.leaves q.leaves n m place in
      ok_err q.relation (stop_of e) (sym q.value ∙ sym value ∙ p.raises)

  same_raised : (n m : ℕ) (e f : Raise) → n ≡ m → IsRaised s n e → IsRaised t m f → e ≡ f
  same_raised n m e f place p q =
      let value = one_value p.database q.database p.leaves q.leaves n m place in
      one_raise e f (err_same (stop_of e) (stop_of f) (sym p.raises ∙ value ∙ q.raises))

-- ---- a relvar of the catalogue

module _ (c : CatalogueData) (s t : Seen) (both : AreOpen s t) (same : HoldTheSame s t) (x : List ℕ) where
  pub tables_alike : TablesAgree → (r o : Result (List ℕ) TableError) → Tabulates c s x r → Tabulates c t x o
      → ArePrintedAlike (table_answer r) (table_answer o)
  tables_alike agree (Err table_error.OutOfMemory) o p q = inl refl
  tables_alike agree r (Err table_error.OutOfMemory) p q = inr (inl refl)
  tables_alike agree (Err table_error.Broken) o p q = closed s both.0 p.0
  tables_alike agree r (Err table_error.Broken) p q = closed t both.1 q.0
  tables_alike agree (Ok text) (Ok other) p q =
      let place = one_place c x p.1 q.1 p.2 q.2 in
      let there = subst (λ (n : ℕ). IsTable t n other) (sym place) q.3 in
      inr (inr (agree s t same p.1 text other p.3 there))
  tables_alike agree (Ok text) (Err table_error.Unknown) p q = never_named c x p.1 p.2.relvar q p.2.named
  tables_alike agree (Ok text) (Err table_error.NoAttributes) p q = never_both c x p.1 p.2 q
  tables_alike agree (Ok text) (Err (table_error.Raised e)) p q =
      never_raised s t same p.1 q.1 text e (one_place c x p.1 q.1 p.2 q.2) p.3 q.3
  tables_alike agree (Err table_error.Unknown) (Ok other) p q = never_named c x q.1 q.2.relvar p q.2.named
  tables_alike agree (Err table_error.Unknown) (Err table_error.Unknown) p q = inr (inr refl)
  tables_alike agree (Err table_error.Unknown) (Err table_error.NoAttributes) p q =
      never_named c x q.place q.relvar p q.named
  tables_alike agree (Err table_error.Unknown) (Err (table_error.Raised e)) p q =
      never_named c x q.1 q.2.relvar p q.2.named
  tables_alike agree (Err table_error.NoAttributes) (Ok other) p q = never_both c x q.1 q.2 p
  tables_alike agree (Err table_error.NoAttributes) (Err table_error.Unknown) p q =
      never_named c x p.place p.relvar q p.named
  tables_alike agree (Err table_error.NoAttributes) (Err table_error.NoAttributes) p q = inr (inr refl)
  tables_alike agree (Err table_error.NoAttributes) (Err (table_error.Raised e)) p q = never_both c x q.1 q.2 p
  tables_alike agree (Err (table_error.Raised e)) (Ok other) p q =
      raised_never s t same p.1 q.1 other e (one_place c x p.1 q.1 p.2 q.2) p.3 q.3
  tables_alike agree (Err (table_error.Raised e)) (Err table_error.Unknown) p q =
      never_named c x p.1 p.2.relvar q p.2.named
  tables_alike agree (Err (table_error.Raised e)) (Err table_error.NoAttributes) p q = never_both c x p.1 p.2 q
  tables_alike agree (Err (table_error.Raised e)) (Err (table_error.Raised f)) p q =
      inr (inr (ap raised_line (same_raised s t same p.1 q.1 e f (one_place c x p.1 q.1 p.2 q.2) p.3 q.3)))
