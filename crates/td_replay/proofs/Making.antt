-- A step of a database taken back, made again, and put back.
use Rattle.std.proofs.Common.{◌≡◌, ⊎_elim, ℕ, List, Result, Ok, Err, ap, sym, subst, ◌∙◌}
use Rattle.std.specs.List.{All, Contains}
use Rattle.std.specs.Prelude.{IfOk, OnErr, OnOk}
use Rattle.std.proofs.Common.{◌≡◌, ⊎_elim, ℕ, List, IfOk, Result, Ok, Err, ap, sym, ◌∙◌, subst}
use Rattle.td_algebra.specs.declared.errors.Stop.{Stop}
use Rattle.td_assign.specs.Laws.{GoesBothWays}
use Rattle.td_assign.specs.Readings.{IsReadText}
use Rattle.td_assign.specs.Redoing.{AreOnce, CanRedo, CanUndo, IsBetween}
use Rattle.td_assign.specs.declared.ran.Ran.{Ran}
use Rattle.td_assign.specs.declared.reading.ReadText.{ReadText}
use Rattle.td_assign.proofs.Leading.{differences_go_both_ways, only_listed_change}
use Rattle.td_assign.proofs.Stepping.{changes_targets, step_keeps_database}
use Rattle.td_headings.specs.Catalogues.{CatalogueData}
use Rattle.td_relations.specs.Deltas.{DeltaData}
use Rattle.td_relvars.specs.Changed.{redone, undone}
use Rattle.td_relvars.specs.Parts.{part_of, put_part}
use Rattle.td_relvars.proofs.Copies.{part_belongs, put_back_restores}
use Rattle.td_stamps.specs.declared.entry.Entry.{Entry}
use Rattle.td_semantics.specs.Databases.{Belongs, DatabaseData, IsDatabase, Stored, stored_relvars}
use Rattle.td_semantics.specs.Steps.{Steps}
use Rattle.td_values.specs.Rows.{RowsData}
use Rattle.td_replay.specs.Noted.{AgreeAt, IsLegalDatabase, Notes, opened_by}
use Rattle.td_replay.specs.ForProofs.Going.{catalogue_stays, origin_of, stays_sound}

-- ---- what is listed is a target, so nothing else changes where the list is made or taken back
listed_is_target : (s t : DatabaseData) (e : Entry) (r : Ran) → Notes s e r t → (n : ℕ) → (Contains r.names.targets.items n → ⊥) → (d : DeltaData) → Contains r.delta.items (n, d) → ⊥
listed_is_target s t e r step n never d h =
    let differs = step.delta.only (n, d) h in
    let stays = changes_targets s t e.dialect e.text r.outcome n step.step (λ target. never ((step.targets.members n).1 target)) in
    differs.apart (ok_same differs.change.before differs.change.after (sym differs.change.was ∙ sym stays ∙ differs.change.is))
  where
    ok_same : (a b : RowsData) → ◌≡◌ {A = Result RowsData Stop} (Ok a) (Ok b) → a ≡ b
    ok_same a b h = cc

alike_between : (d u : DatabaseData) (after : Stored) (n : ℕ) → IsBetween d after u → stored_relvars after n ≡ stored_relvars d.stored n → AgreeAt d u n
alike_between d u after n h same = (
  sym h.catalogue,
  ⊎_elim (λ old. sym old) (λ new. sym (new ∙ same)) (h.each n),
)

alike_changed : (d u : DatabaseData) (after : Stored) (n : ℕ) → u ≡ record d { stored = after } → stored_relvars after n ≡ stored_relvars d.stored n → AgreeAt d u n
alike_changed d u after n is same = (sym (ap (λ (z : DatabaseData). z.catalogue) is), sym (ap (λ (z : DatabaseData). stored_relvars z.stored n) is ∙ same))

-- ---- a step taken back, or made again: over what a call answers
module _ (s t : DatabaseData) (e : Entry) (r : Ran) (good : IsLegalDatabase s) (step : Notes s e r t) (ds : List (ℕ × DeltaData)) (are : ds ≡ r.delta.items) where
  both : GoesBothWays s t ds
  both = subst (GoesBothWays s t) (sym are) (differences_go_both_ways s t r.delta.items good.0 (stays_sound s t e r good step).0 (catalogue_stays s t e r good step) step.delta)

  pub once : AreOnce ds
  once = both.once

  pub can_undo : CanUndo t ds
  can_undo = both.can_undo

  pub can_redo : CanRedo s ds
  can_redo = both.can_redo

  pub undone_is : {A E : Type 0} (u : DatabaseData) (m : Result A E) → OnOk m (u ≡ record t { stored = undone ds t.stored }) → OnOk m (u ≡ s)
  undone_is u (Ok a) h = h ∙ both.back
  undone_is u (Err x) h = tt

  pub redone_is : {A E : Type 0} (u : DatabaseData) (m : Result A E) → OnOk m (u ≡ record s { stored = redone ds s.stored }) → OnOk m (u ≡ t)
  redone_is u (Ok a) h = h ∙ both.on
  redone_is u (Err x) h = tt

  made_elsewhere : (n : ℕ) → (Contains r.names.targets.items n → ⊥) → (stored : Stored) → (stored_relvars (redone ds stored) n ≡ stored_relvars stored n) × (stored_relvars (undone ds stored) n ≡ stored_relvars stored n)
  made_elsewhere n never stored =
      only_listed_change ds stored n (λ d h. listed_is_target s t e r step n never d (subst (λ (xs : List (ℕ × DeltaData)). Contains xs (n, d)) are h))

  pub undone_elsewhere : {A E : Type 0} (u : DatabaseData) (m : Result A E) → OnOk m (u ≡ record t { stored = undone ds t.stored }) → OnErr m (IsBetween t (undone ds t.stored) u) → (n : ℕ) → (Contains r.names.targets.items n → ⊥) → AgreeAt t u n
  undone_elsewhere u (Ok a) h k n never = alike_changed t u (undone ds t.stored) n h (made_elsewhere n never t.stored).1
  undone_elsewhere u (Err x) h k n never = alike_between t u (undone ds t.stored) n k (made_elsewhere n never t.stored).1

  pub redone_elsewhere : {A E : Type 0} (u : DatabaseData) (m : Result A E) → OnOk m (u ≡ record s { stored = redone ds s.stored }) → OnErr m (IsBetween s (redone ds s.stored) u) → (n : ℕ) → (Contains r.names.targets.items n → ⊥) → AgreeAt s u n
  redone_elsewhere u (Ok a) h k n never = alike_changed s u (redone ds s.stored) n h (made_elsewhere n never s.stored).0
  redone_elsewhere u (Err x) h k n never = alike_between s u (redone ds s.stored) n k (made_elsewhere n never s.stored).0

module _ {A E : Type 0} (d u : DatabaseData) (after : Stored) where
  pub origin_is : (m : Result A E) → OnOk m (u ≡ record d { stored = after }) → OnErr m (IsBetween d after u) → origin_of u ≡ origin_of d
  origin_is (Ok a) h k = ap origin_of h
  origin_is (Err x) h k = ap opened_by k.catalogue

-- ---- a run
module _ {E : Type 0} (s t : DatabaseData) (dialect : ℕ) (text : List ℕ) where
  pub origin_ran : (m : Result Ran E) → IsLegalDatabase s → IfOk m (λ r. Steps s dialect text r.outcome t) → OnErr m (t ≡ s) → origin_of t ≡ origin_of s
  origin_ran (Ok r) good h k = ap opened_by (step_keeps_database s t dialect text r.outcome good.0 h).1
  origin_ran (Err x) good h k = ap origin_of k

-- ---- what is put back
pub may_be_put_back : (s d : DatabaseData) (ns : List ℕ) (part : List (ℕ × RowsData)) → IsLegalDatabase s → part ≡ part_of s.stored ns → origin_of s ≡ origin_of d → All (λ (p : ℕ × RowsData). Belongs d.catalogue p.0 p.1) part
may_be_put_back s d ns part good is same =
    subst (λ (q : List (ℕ × RowsData)). All (λ (p : ℕ × RowsData). Belongs d.catalogue p.0 p.1) q) (sym is)
    (subst (λ (c : CatalogueData). All (λ (p : ℕ × RowsData). Belongs c p.0 p.1) (part_of s.stored ns)) (ap (λ (z : DatabaseData). z.catalogue) same) (part_belongs s ns good.0))

pub is_put_back : (s d u : DatabaseData) (ns : List ℕ) (part : List (ℕ × RowsData)) → IsDatabase d → u ≡ record d { stored = put_part part d.stored } → IsLegalDatabase s → part ≡ part_of s.stored ns → origin_of s ≡ origin_of d
    → ((n : ℕ) → (Contains ns n → ⊥) → AgreeAt s d n) → u ≡ s
is_put_back s d u ns part there put good is same alike =
    put ∙ ap (λ (q : List (ℕ × RowsData)). record d { stored = put_part q d.stored }) is
    ∙ put_back_restores s d ns good.0 there (ap (λ (z : DatabaseData). z.catalogue) same) (λ n never. (alike n never).1)

-- ---- what is read of an entry
pub read_so : {E : Type 0} (c k : CatalogueData) (dialect : ℕ) (text t : List ℕ) (m : Result ReadText E) → k ≡ c → text ≡ t → IfOk m (IsReadText k dialect text) → IfOk m (IsReadText c dialect t)
read_so c k dialect text t m same is h = subst (λ (z : CatalogueData). IfOk m (IsReadText z dialect t)) same (subst (λ (x : List ℕ). IfOk m (IsReadText k dialect x)) is h)
