-- Steps that commute may be exchanged.
use Rattle.std.proofs.Common.{◌≡◌, ◌⊎◌, ⊎_elim, ℕ, [], ap, sym, subst, ◌∙◌}
use Rattle.std.specs.List.{Contains}
use Rattle.td_accesses.specs.Commuting.{AreApart, Commute, InsertApart, InsertBeside}
use Rattle.td_accesses.proofs.Beside.{commute_back, insertions_commute}
use Rattle.td_accesses.proofs.Depending.{among}
use Rattle.td_assign.specs.Inserting.{PutsIn}
use Rattle.td_assign.specs.declared.ran.Ran.{Ran}
use Rattle.td_headings.specs.Catalogues.{CatalogueData}
use Rattle.td_headings.specs.Reached.{AreThose}
use Rattle.td_relvars.proofs.Copies.{put_back_restores}
use Rattle.td_rollback.specs.Commuting.{Commutes}
use Rattle.td_rollback.specs.Going.{SoundFrom}
use Rattle.td_stamps.specs.declared.entry.Entry.{Entry}
use Rattle.td_semantics.specs.Databases.{DatabaseData}
use Rattle.td_semantics.specs.Footprints.{IsInFootprint, IsTargetOfText}
use Rattle.td_replay.specs.Noted.{AgreeAt, AreTargetsOf, IsLegalDatabase, Notes}
use Rattle.td_replay.specs.ForProofs.Going.{catalogue_stays, go, one_catalogue, origin_of}

abbrev Sound : DatabaseData → DatabaseData → Type 0
Sound o = SoundFrom IsLegalDatabase origin_of o

one_database : (o s t : DatabaseData) → Sound o s → Sound o t → ((n : ℕ) → AgreeAt s t n) → s ≡ t
one_database o s t good fine alike =
    let same = ap (λ (d : DatabaseData). d.catalogue) good.1 ∙ sym (ap (λ (d : DatabaseData). d.catalogue) fine.1) in
    sym (put_back_restores s t [] good.0.0 fine.0.0 same (λ n never. (alike n).1))

-- ---- steps of entries that are apart
module _ (o s t u : DatabaseData) (e f : Entry) (q r : Ran) (apart : AreApart o.catalogue e.dialect e.text f.dialect f.text) (good : Sound o s) (one : Notes s e q t) (two : Notes t f r u) where
  fine : Sound o t
  fine = (go o).stay_sound s t e q good one

  other_there : (v : DatabaseData) × Notes s f r v
  other_there = (go o).by_footprint t u s f r fine good (λ n h. (go o).alike_back s t n ((go o).change_targets s t e q n good one (λ k. apart.first n k h))) two

  abbrev v : DatabaseData
  v = other_there.0

  sound_v : Sound o v
  sound_v = (go o).stay_sound s v f r good other_there.1

  it_there : (w : DatabaseData) × Notes v e q w
  it_there = (go o).by_footprint s t v e q good sound_v (λ n h. (go o).change_targets s v f r n good other_there.1 (λ k. apart.second n k h)) one

  abbrev w : DatabaseData
  w = it_there.0

  one_end : w ≡ u
  one_end = one_database o w u ((go o).stay_sound v w e q sound_v it_there.1) ((go o).stay_sound t u f r fine two) (λ n.
      ⊎_elim
      (λ (h : Contains q.names.targets.items n).
      let target = ((go o).name_targets s t e q good one n).0 h in
      let off : AreTargetsOf o f n → ⊥ = λ k. apart.first n target ((go o).hang_on_targets f n k) in
      (go o).alike_through w t u n
      ((go o).alike_back t w n ((go o).go_alike s t v w e q n good sound_v one it_there.1 ((go o).change_targets s v f r n good other_there.1 off)))
      ((go o).change_targets t u f r n fine two off))
      (λ none.
      let off : AreTargetsOf o e n → ⊥ = λ k. none (((go o).name_targets s t e q good one n).1 k) in
      (go o).alike_through w v u n
      ((go o).alike_back v w n ((go o).change_targets v w e q n sound_v it_there.1 off))
      ((go o).go_alike s v t u f r n good fine other_there.1 two ((go o).change_targets s t e q n good one off)))
      (among n q.names.targets.items))

  exchange_apart : (g : DatabaseData) × Notes s f r g × Notes g e q u
  exchange_apart = (v, other_there.1, subst (Notes v e q) one_end it_there.1)

-- ---- insertions
module _ (o s t u : DatabaseData) (e f : Entry) (q r : Ran) (apart : InsertApart o.catalogue e.dialect e.text f.dialect f.text ⊎ InsertBeside o.catalogue e.dialect e.text f.dialect f.text) (good : Sound o s) (one : Notes s e q t) (two : Notes t f r u) where
  here : s.catalogue ≡ o.catalogue
  here = one_catalogue s o good.1

  later : t.catalogue ≡ s.catalogue
  later = catalogue_stays s t e q good.0 one

  exchange_insertions : (g : DatabaseData) × Notes s f r g × Notes g e q u
  exchange_insertions =
      let x = subst (λ (c : CatalogueData). InsertApart c e.dialect e.text f.dialect f.text ⊎ InsertBeside c e.dialect e.text f.dialect f.text) (sym here) apart in
      let h = insertions_commute s t u e.dialect f.dialect e.text f.text q.outcome r.outcome q.delta.items r.delta.items good.0.0 good.0.1 x (record { step = one.step; differences = one.delta }) (record { step = two.step; differences = two.delta }) in
      let first : Notes s f r h.0 = record {
        step = h.1.step;
        delta = h.1.differences;
        targets = subst (λ (c : CatalogueData). AreThose (IsTargetOfText c f.dialect f.text) r.names.targets.items) later two.targets;
        footprint = subst (λ (c : CatalogueData). AreThose (IsInFootprint c f.dialect f.text) r.names.footprint.items) later two.footprint;
        puts = λ yes. subst (λ (c : CatalogueData). PutsIn c f.dialect f.text r.delta.items) later (two.puts yes);
      } in
      let stays = sym (catalogue_stays s h.0 f r good.0 first) in (
        h.0,
        first,
        record {
          step = h.2.step;
          delta = h.2.differences;
          targets = subst (λ (c : CatalogueData). AreThose (IsTargetOfText c e.dialect e.text) q.names.targets.items) stays one.targets;
          footprint = subst (λ (c : CatalogueData). AreThose (IsInFootprint c e.dialect e.text) q.names.footprint.items) stays one.footprint;
          puts = λ yes. subst (λ (c : CatalogueData). PutsIn c e.dialect e.text q.delta.items) stays (one.puts yes);
        },
      )

pub exchanges : (o : DatabaseData) → Commutes {S = DatabaseData} {R = Ran} (SoundFrom IsLegalDatabase origin_of o) Notes (λ (e f : Entry). Commute o.catalogue e.dialect e.text f.dialect f.text)
exchanges o = record {
  back = λ e f h. commute_back o.catalogue e.dialect f.dialect e.text f.text h;
  exchange = λ s t u e f q r h good one two. ⊎_elim (λ apart. exchange_apart o s t u e f q r apart good one two) (λ apart. exchange_insertions o s t u e f q r apart good one two) h;
}
