-- What is asked of the steps of a database: that they go by their records.
use Rattle.std.proofs.Common.{◌≡◌, ◌↔◌, ℕ, refl, ap, sym, subst, ◌∙◌}
use Rattle.std.specs.List.{Contains}
use Rattle.td_assign.specs.Inserting.{PutsIn}
use Rattle.td_assign.specs.declared.ran.Ran.{Ran}
use Rattle.td_assign.proofs.Footprint.{step_by_footprint}
use Rattle.td_assign.proofs.Leading.{go_alike}
use Rattle.td_assign.proofs.Stepping.{changes_targets, step_keeps_database}
use Rattle.td_headings.specs.Catalogues.{CatalogueData}
use Rattle.td_headings.specs.Reached.{AreThose}
use Rattle.td_rollback.specs.Going.{GoByRecords, SoundFrom}
use Rattle.td_stamps.specs.declared.entry.Entry.{Entry}
use Rattle.td_semantics.specs.Databases.{DatabaseData, stored_relvars}
use Rattle.td_semantics.specs.Footprints.{IsInFootprint, IsTargetOfText, target}
use Rattle.td_semantics.proofs.Legal.{step_is_legal}
use Rattle.td_replay.specs.Noted.{AgreeAt, AreTargetsOf, IsFootprintOf, IsLegalDatabase, Notes, opened_by}

abbrev pub origin_of : DatabaseData → DatabaseData
origin_of d = opened_by d.catalogue

abbrev Sound : DatabaseData → DatabaseData → Type 0
Sound o = SoundFrom IsLegalDatabase origin_of o

-- the catalogue is that of the origin
pub one_catalogue : (s o : DatabaseData) → origin_of s ≡ o → s.catalogue ≡ o.catalogue
one_catalogue s o h = ap (λ (d : DatabaseData). d.catalogue) h

pub catalogue_stays : (s t : DatabaseData) (e : Entry) (r : Ran) → IsLegalDatabase s → Notes s e r t → t.catalogue ≡ s.catalogue
catalogue_stays s t e r good step = (step_keeps_database s t e.dialect e.text r.outcome good.0 step.step).1

pub stays_sound : (s t : DatabaseData) (e : Entry) (r : Ran) → IsLegalDatabase s → Notes s e r t → IsLegalDatabase t
stays_sound s t e r good step = ((step_keeps_database s t e.dialect e.text r.outcome good.0 step.step).0, step_is_legal s t e.dialect e.text r.outcome step.step good.1)

stay_sound : (o s t : DatabaseData) (e : Entry) (r : Ran) → Sound o s → Notes s e r t → Sound o t
stay_sound o s t e r good step = (stays_sound s t e r good.0 step, ap opened_by (catalogue_stays s t e r good.0 step) ∙ good.1)

change_targets : (o s t : DatabaseData) (e : Entry) (r : Ran) (n : ℕ) → Sound o s → Notes s e r t → (AreTargetsOf o e n → ⊥) → AgreeAt s t n
change_targets o s t e r n good step never =
    let same = one_catalogue s o good.1 in
    (sym (catalogue_stays s t e r good.0 step), sym (changes_targets s t e.dialect e.text r.outcome n step.step (λ h. never (subst (λ (c : CatalogueData). IsTargetOfText c e.dialect e.text n) same h))))

by_footprint : (o s t u : DatabaseData) (e : Entry) (r : Ran) → Sound o s → Sound o u → ((n : ℕ) → IsFootprintOf o e n → AgreeAt s u n) → Notes s e r t → (v : DatabaseData) × Notes u e r v
by_footprint o s t u e r good fine alike step =
    let same = one_catalogue s o good.1 in
    let both = same ∙ sym (one_catalogue u o fine.1) in
    let taken = step_by_footprint s u t e.dialect e.text r.outcome good.0.0 fine.0.0 good.0.1 fine.0.1 (record {
      catalogue = both;
      relvars = λ n h. (alike n (subst (λ (c : CatalogueData). IsInFootprint c e.dialect e.text n) same h)).1;
    }) step.step in (
      taken.after,
      record {
        step = taken.step;
        delta = taken.differences r.delta.items step.delta;
        targets = subst (λ (c : CatalogueData). AreThose (IsTargetOfText c e.dialect e.text) r.names.targets.items) both step.targets;
        footprint = subst (λ (c : CatalogueData). AreThose (IsInFootprint c e.dialect e.text) r.names.footprint.items) both step.footprint;
        puts = λ yes. subst (λ (c : CatalogueData). PutsIn c e.dialect e.text r.delta.items) both (step.puts yes);
      },
    )

steps_alike : (o s t u v : DatabaseData) (e : Entry) (r : Ran) (n : ℕ) → Sound o s → Sound o u → Notes s e r t → Notes u e r v → AgreeAt s u n → AgreeAt t v n
steps_alike o s t u v e r n good fine step other alike = (
  catalogue_stays s t e r good.0 step ∙ alike.0 ∙ sym (catalogue_stays u v e r fine.0 other),
  go_alike (stored_relvars s.stored) (stored_relvars t.stored) (stored_relvars u.stored) (stored_relvars v.stored) r.delta.items step.delta other.delta n alike.1,
)

name_footprint : (o s t : DatabaseData) (e : Entry) (r : Ran) → Sound o s → Notes s e r t → (n : ℕ) → Contains r.names.footprint.items n ↔ IsFootprintOf o e n
name_footprint o s t e r good step n =
    subst (λ (c : CatalogueData). Contains r.names.footprint.items n ↔ IsInFootprint c e.dialect e.text n) (one_catalogue s o good.1) (step.footprint.members n)

name_targets : (o s t : DatabaseData) (e : Entry) (r : Ran) → Sound o s → Notes s e r t → (n : ℕ) → Contains r.names.targets.items n ↔ AreTargetsOf o e n
name_targets o s t e r good step n =
    subst (λ (c : CatalogueData). Contains r.names.targets.items n ↔ IsTargetOfText c e.dialect e.text n) (one_catalogue s o good.1) (step.targets.members n)

hang_on_targets : (o : DatabaseData) (e : Entry) (n : ℕ) → AreTargetsOf o e n → IsFootprintOf o e n
hang_on_targets o e n h = record { statement = h.statement; reads = h.reads; within = target h.target }

pub go : (o : DatabaseData) → GoByRecords {S = DatabaseData} {R = Ran} (SoundFrom IsLegalDatabase origin_of o) Notes AgreeAt (IsFootprintOf o) (AreTargetsOf o) (λ r. r.names.footprint.items) (λ r. r.names.targets.items)
go o = record {
  hang_on_targets = hang_on_targets o;
  stay_sound = stay_sound o;
  change_targets = change_targets o;
  by_footprint = by_footprint o;
  go_alike = steps_alike o;
  name_footprint = name_footprint o;
  name_targets = name_targets o;
  alike_self = λ s n. (refl, refl);
  alike_back = λ s t n h. (sym h.0, sym h.1);
  alike_through = λ s t u n h k. (h.0 ∙ k.0, h.1 ∙ k.1);
}
