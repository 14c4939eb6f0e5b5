-- Differences made again, and taken back.
use Rattle.std.proofs.Common.{◌≡◌, ⊎_elim, ℕ, [], ◌∷◌, length, Ok, ap, sym, ◌∙◌, subst, arith}
use Rattle.std.specs.List.{Contains}
use Rattle.std.proofs.lemmas.Bool.{cases_eq}
use Rattle.td_values.specs.Rows.{RowsData}
use Rattle.td_relations.specs.Deltas.{DeltaData, applied, inverse_of}
use Rattle.td_relations.specs.Sets.{body}
use Rattle.td_relations.proofs.Changes.{leads_to}
use Rattle.td_relations.proofs.Members.{relation_of_is}
use Rattle.td_headings.specs.Catalogues.{CatalogueData}
use Rattle.td_meaning.specs.Mean.{Relvars}
use Rattle.td_semantics.specs.Databases.{Belongs, DatabaseData, IsDatabase, Stored, stored_relvars}
use Rattle.td_semantics.specs.Differences.{AreDifferences}
use Rattle.td_relvars.specs.Changed.{change, changed, inverses, redone}
use Rattle.td_relvars.proofs.Kept.{belongs}
use Rattle.td_relvars.proofs.Places.{change_length, change_other, change_there, ok_same, one_store}
use Rattle.td_assign.specs.Laws.{DifferencesGoBothWays, GoAlike, OnlyListedChange, RedoneLeadsOn, UndoneLeadsBack}
use Rattle.td_assign.specs.Redoing.{AreOnce, CanRedo}
use Rattle.td_assign.proofs.Listed.{Changes, first_apart, first_there, from_inverses, inverses_once, inverses_unlisted, named, others_stay, rest_once, rest_there, to_inverses, unlisted_first}

-- what the list says of two states: each change it has leads from what the one has to what the other has, and is of
-- the one's heading; the rest is the same
pub record Leads (old new : Relvars) (ds : Changes) : Type 0 where
  pub once : AreOnce ds
  pub only :
      (p : ℕ × DeltaData) → Contains ds p
      → (r : RowsData) × (old p.0 ≡ Ok r) × (p.1.inserted.heading ≡ r.heading) × (new p.0 ≡ Ok (changed r p.1))
  pub all : (n : ℕ) → ((d : DeltaData) → Contains ds (n, d) → ⊥) → new n ≡ old n

led :
    (old new : Stored) (ds : Changes) → length old ≡ length new → Leads (stored_relvars old) (stored_relvars new) ds
    → redone ds old ≡ new
led old new [] e l = one_store old new e (λ n. sym (l.all n (λ d h. absurd (omega (arith, h.1)))))
led old new (p ∷ ds) e l =
    let mid = change p.0 p.1 old in
    let now = l.only p (first_there p ds) in
    let here : stored_relvars mid p.0 ≡ stored_relvars new p.0 = change_there p.0 p.1 old now.0 now.1 ∙ sym now.3 in
    led mid new ds (change_length p.0 p.1 old ∙ e) (record {
      once = rest_once p ds l.once;
      only = λ q h.
          let k = l.only q (rest_there p q ds h) in
          (k.0, change_other p.0 q.0 p.1 old (first_apart p q ds l.once h) ∙ k.1, k.2, k.3);
      all = λ n never. ⊎_elim
          (λ same. subst (λ m. stored_relvars new m ≡ stored_relvars mid m) same (sym here))
          (λ apart. l.all n (unlisted_first p ds n apart never) ∙ sym (change_other p.0 n p.1 old apart))
          (cases_eq p.0 n);
    })

module _ (old new : Relvars) (ds : Changes) (a : AreDifferences old new ds) where
  pub leads_on : Leads old new ds
  leads_on = record {
    once = a.once;
    only = λ p h.
        let q = (a.only p h).change in
        let r = q.before in
        let d = q.difference in
        let is : changed r p.1 ≡ q.after =
        leads_to r q.after (changed r p.1) p.1.deleted p.1.inserted q.one_heading q.is_rows.ascending
        r.heading r.heading d.deleted d.inserted (relation_of_is r.heading (applied (body r) p.1)) in
        (r, q.was, d.inserted.heading, q.is ∙ ap Ok (sym is));
    all = a.all;
  }

  pub leads_back : Leads new old (inverses ds)
  leads_back = record {
    once = inverses_once ds a.once;
    only = λ p h.
        let q = (a.only (p.0, inverse_of p.1) (from_inverses ds p h)).change in
        let r = q.after in
        let d = q.difference in
        let is : changed r p.1 ≡ q.before =
        leads_to r q.before (changed r p.1) p.1.deleted p.1.inserted (sym q.one_heading) q.was_rows.ascending
        q.before.heading q.before.heading d.inserted d.deleted (relation_of_is r.heading (applied (body r) p.1)) in
        (r, q.is, d.deleted.heading ∙ q.one_heading, q.was ∙ ap Ok (sym is));
    all = λ n never. sym (a.all n (λ d h. never (inverse_of d) (to_inverses ds (n, d) h)));
  }

one_length :
    (old new : DatabaseData) → IsDatabase old → IsDatabase new → new.catalogue ≡ old.catalogue
    → length old.stored ≡ length new.stored
one_length old new a b same = a.each ∙ ap (λ (c : CatalogueData). length c.origins) (sym same) ∙ sym b.each

-- what changes lead to belongs to the database that they lead to
can_redo :
    (old new : DatabaseData) (ds : Changes) → IsDatabase new → new.catalogue ≡ old.catalogue
    → Leads (stored_relvars old.stored) (stored_relvars new.stored) ds → CanRedo old ds
can_redo old new ds is same l = λ p h.
    let k = l.only p h in
    record {
      before = k.0;
      has = k.1;
      heading = k.2;
      belongs =
          let own = belongs new is p.0 (changed k.0 p.1) k.3 in
          subst (λ (c : CatalogueData). Belongs c p.0 (changed k.0 p.1)) same own;
    }

pub only_listed_change : OnlyListedChange
only_listed_change ds stored n never =
    (others_stay ds stored n never, others_stay (inverses ds) stored n (inverses_unlisted ds n never))

pub redone_leads_on : RedoneLeadsOn
redone_leads_on old new ds a b same diff =
    let on = leads_on (stored_relvars old.stored) (stored_relvars new.stored) ds diff in
    led old.stored new.stored ds (one_length old new a b same) on

pub undone_leads_back : UndoneLeadsBack
undone_leads_back old new ds a b same diff =
    let back = leads_back (stored_relvars old.stored) (stored_relvars new.stored) ds diff in
    led new.stored old.stored (inverses ds) (sym (one_length old new a b same)) back

pub go_alike : GoAlike
go_alike old new other last ds a b n same =
    ⊎_elim
    (λ k.
    let p = (leads_on old new ds a).only (n, k.0) k.1 in
    let q = (leads_on other last ds b).only (n, k.0) k.1 in
    let one = ok_same p.0 q.0 (sym p.1 ∙ same ∙ q.1) in
    p.3 ∙ ap (λ r. Ok (changed r k.0)) one ∙ sym q.3)
    (λ never. a.all n never ∙ same ∙ sym (b.all n never))
    (named ds n)

pub differences_go_both_ways : DifferencesGoBothWays
differences_go_both_ways old new ds a b same diff =
    let on = leads_on (stored_relvars old.stored) (stored_relvars new.stored) ds diff in
    let back = leads_back (stored_relvars old.stored) (stored_relvars new.stored) ds diff in
    let after = redone_leads_on old new ds a b same diff in
    let before = undone_leads_back old new ds a b same diff in
    let other = sym same in
    record {
      once = diff.once;
      can_undo = can_redo new old (inverses ds) a other back;
      back = λ i. record { catalogue = same i; stored = before i };
      can_redo = can_redo old new ds b same on;
      on = λ i. record { catalogue = other i; stored = after i };
    }
