-- A base relvar gained tuples.
use Rattle.std.proofs.Common.{◌≡◌, ◌==◌, ◌⊎◌, ⊎_elim, ℕ, Bool, true, false, List, Option, Some, None, if◌then◌else◌, Result, Ok, Err, refl, ap, sym, ◌∙◌, subst, true≢false, eq-eqb, ne_eqb, inl, inr, arith}
use Rattle.std.specs.Prelude.{slice_get}
use Rattle.std.specs.FinSet as set
use Rattle.std.specs.List.{Contains}
use Rattle.std.proofs.lemmas.Bool.{cases_eq}
use Rattle.std.proofs.lemmas.List.{length-map}
use Rattle.std.proofs.lemmas.Option.{slice_get_within}
use Rattle.td_graph.specs.Links.{start}
use Rattle.td_values.specs.Data.{Attrs, no_attrs}
use Rattle.td_values.specs.Headings.{Header}
use Rattle.td_values.specs.Rows.{RowsData}
use Rattle.td_schema.specs.Schemas.{SchemaData}
use Rattle.td_relations.specs.Sets.{Has, body}
use Rattle.td_relations.proofs.Predicates.{of_difference}
use Rattle.td_typed_trees.specs.declared.tree.Typed.{Typed}
use Rattle.td_typed_trees.specs.declared.tree.Typed.TheVariants as tree
use Rattle.td_algebra.specs.declared.errors.Stop.{Stop}
use Rattle.td_algebra.proofs.Lists.{all_in, in_all}
use Rattle.td_algebra.proofs.Made.{has_in, in_has}
use Rattle.td_headings.specs.Catalogues.{CatalogueData}
use Rattle.td_headings.specs.Reached.{is_base, relvars_of_origin}
use Rattle.td_headings.specs.declared.defined.Origin.{Origin}
use Rattle.td_headings.specs.declared.defined.Test.TheVariants as test
use Rattle.td_meaning.specs.Mean.{Meaning, Relvars, truth_in, within}
use Rattle.td_type_soundness.specs.Meanings.{IsRelationOver, IsTupleOver}
use Rattle.td_semantics.specs.Meanings.{no_names}
use Rattle.td_semantics.specs.Stored.{AreStored}
use Rattle.td_semantics.specs.Tests.{judgement}
use Rattle.td_semantics.specs.Trees.{all_relvars, places, selection_of}
use Rattle.td_incremental.specs.Growth.{AgreeBeside, AgreeOn, Gains, Grows, IsUnread, IsWatched, narrowed}
use Rattle.td_incremental.specs.Laws.{DifferencesAreGains, GrowthKeepsSafe, JudgedByReads, LossesKeepWatched, NarrowedIsStored, WatchedByInserts}
use Rattle.td_incremental.proofs.Agreeing.{trees_agree}
use Rattle.td_incremental.proofs.Answers.{Grown}
use Rattle.td_algebra.specs.Raising.{and_then}
use Rattle.td_operators.specs.Values.{truth_of}
use Rattle.td_relations.specs.Sets.{IsRelation}
use Rattle.td_incremental.proofs.Reading.{named_itself}
use Rattle.td_incremental.proofs.Spreading.{AreGrownAlike, all_grown}
use Rattle.td_incremental.proofs.Virtuals.{not_base}
use Rattle.td_incremental.proofs.Widening.{AreWiderAlike, IsWider, Wider, all_wider, safe}
use Rattle.td_incremental.specs.Safety.{IsSafe}
use Rattle.td_incremental.proofs.Walks.{IsGrown}
use Rattle.td_incremental.proofs.Constraints.{watched}

stays_as_it_is : (x : Result RowsData Stop) → Grown IsGrown x x x
stays_as_it_is (Ok a) = record { old_heading = refl; new_heading = refl; either = λ t h. inl h; new = λ t h. h }
stays_as_it_is (Err e) = tt

pub ok_same : (a b : RowsData) → ◌≡◌ {A = Result RowsData Stop} (Ok a) (Ok b) → a ≡ b
ok_same a b e = cc

in_range : {A : Type 0} (o : Option Origin) → is_base o ≡ true → ((x : Origin) → o ≡ Some x → A) → A
in_range None e some = cc
in_range (Some x) e some = some x refl

-- a base relvar reads itself
module _ (c : CatalogueData) (n : ℕ) (base : is_base (slice_get c.origins n) ≡ true) where
  it_is_read : IsUnread c n (tree.Relvar n) → ⊥
  it_is_read unread = in_range (slice_get c.origins n) base (λ o is.
      let lt = slice_get_within c.origins n o is in
      unread (start (subst (λ l. Contains l n) (sym (named_itself n)) (0, omega arith, refl)) (omega (arith, lt, length-map c.origins relvars_of_origin)), base))

  pub apart_from_it : (m : ℕ) → IsUnread c n (tree.Relvar m) → m ≡ n → ⊥
  apart_from_it m unread same = it_is_read (subst (λ k. IsUnread c n (tree.Relvar k)) same unread)

module _ (old now : Relvars) (n : ℕ) (i : RowsData) (g : Gains old now n i) where
  its_tuples : narrowed n i now n ≡ Ok i
  its_tuples = ap (λ b. if b then Ok i else now n) (eq-eqb n n refl)

  others_stay : (m : ℕ) → (m ≡ n → ⊥) → narrowed n i now m ≡ now m
  others_stay m apart = ap (λ b. if b then Ok i else now m) (ne_eqb m n apart)

  its_growth : IsGrown g.before g.after i
  its_growth = record { old_heading = g.old_heading; new_heading = g.new_heading; either = g.either; new = g.new }

  its_relvar : Grown IsGrown (old n) (now n) (narrowed n i now n)
  its_relvar =
      subst (λ x. Grown IsGrown x (now n) (narrowed n i now n)) (sym g.was)
      (subst (λ y. Grown IsGrown (Ok g.before) y (narrowed n i now n)) (sym g.is)
      (subst (λ z. Grown IsGrown (Ok g.before) (Ok g.after) z) (sym its_tuples) its_growth))

  others_grown : (m : ℕ) → (m ≡ n → ⊥) → now m ≡ old m → Grown IsGrown (old m) (now m) (narrowed n i now m)
  others_grown m apart same =
      subst (λ x. Grown IsGrown x (now m) (narrowed n i now m)) same
      (subst (λ z. Grown IsGrown (now m) (now m) z) (sym (others_stay m apart)) (stays_as_it_is (now m)))

  module _ (c : CatalogueData) (base : is_base (slice_get c.origins n) ≡ true) (others : (m : ℕ) → (m ≡ n → ⊥) → now m ≡ old m) where
    begun : AreGrownAlike c n (selection_of c) old now (narrowed n i now)
    begun = record {
      old = λ m unread. sym (others m (apart_from_it c n base m unread));
      new = λ m unread. others_stay m (apart_from_it c n base m unread);
      itself_related = its_relvar;
      virtual_related = λ m u is h. let apart = not_base c n base m u is in others_grown m apart (others m apart);
    }

    all_begun : AreGrownAlike c n (selection_of c) (all_relvars c old) (all_relvars c now) (all_relvars c (narrowed n i now))
    all_begun = all_grown c n (selection_of c) base (places c.origins) old now (narrowed n i now) begun

    tested : (x : List ℕ) (u : Typed) → IsWatched c n u → judgement c old (test.Constraint x u) ≡ Ok true → judgement c now (test.Constraint x u) ≡ judgement c (narrowed n i now) (test.Constraint x u)
    unfolding truth_in
    tested x u h e = watched c n (selection_of c) (all_relvars c old) (all_relvars c now) (all_relvars c (narrowed n i now)) all_begun (within no_attrs no_names) u h e

  -- ---- the new tuples are of the heading
  module _ (s : SchemaData) (h : Header) where
    its_rows : (r : RowsData) → now n ≡ Ok r → IsRelationOver s h r → IsRelationOver s h i
    its_rows r is rows =
        let same = ok_same r g.after (sym is ∙ g.is) in
        record {
          heading = g.new_heading ∙ sym (ap (λ (q : RowsData). q.heading) same) ∙ rows.heading;
          tuples = in_all (IsTupleOver s h) i.tuples (λ t m. all_in (IsTupleOver s h) r.tuples rows.tuples t (has_in r t (subst (λ (q : RowsData). Has q t) (sym same) (its_growth.new t (in_has i t m)))));
        }

  still_stored : (c : CatalogueData) → AreStored c now → AreStored c (narrowed n i now)
  still_stored c stored m v base is =
      let there = stored m v base is in
      ⊎_elim
      (λ same. (i, ap (λ b. if b then Ok i else now m) (eq-eqb m n same), its_rows c.schema v.value there.0 (ap now (sym same) ∙ there.1) there.2))
      (λ apart. (there.0, others_stay m apart ∙ there.1, there.2))
      (cases_eq m n)

-- ---- relvars that agree on what is read
pub judged_by_reads : JudgedByReads
judged_by_reads c r s x u a = ap (λ (m : Meaning). and_then (m (within no_attrs no_names)) truth_of) (trees_agree c u (selection_of c) (places c.origins) r s a)

-- now, but at n as it was
module _ (old now : Relvars) (n : ℕ) where
  abbrev pub before_it : Relvars
  before_it m = if m == n then old n else now m

  pub as_it_was : before_it n ≡ old n
  as_it_was = ap (λ b. if b then old n else now n) (eq-eqb n n refl)

  pub else_now : (m : ℕ) → (m ≡ n → ⊥) → now m ≡ before_it m
  else_now m apart = sym (ap (λ b. if b then old n else now m) (ne_eqb m n apart))

  pub as_before : (c : CatalogueData) (u : Typed) → AgreeBeside c u n old now → AgreeOn c u old before_it
  as_before c u a m read =
      ⊎_elim
      (λ same. ap old same ∙ sym as_it_was ∙ ap before_it (sym same))
      (λ apart. a m apart read ∙ else_now m apart)
      (cases_eq m n)

  pub judged_before : (c : CatalogueData) (x : List ℕ) (u : Typed) → AgreeBeside c u n old now → judgement c old (test.Constraint x u) ≡ Ok true → judgement c before_it (test.Constraint x u) ≡ Ok true
  judged_before c x u a e = sym (judged_by_reads c old before_it x u (as_before c u a)) ∙ e

pub watched_by_inserts : WatchedByInserts
watched_by_inserts c old now n i x u base a g h e =
    tested (before_it old now n) now n i (record { before = g.before; after = g.after; was = as_it_was old now n ∙ g.was; is = g.is; old_heading = g.old_heading; new_heading = g.new_heading; either = g.either; new = g.new }) c base (else_now old now n) x u h
    (judged_before old now n c x u a e)

pub narrowed_is_stored : NarrowedIsStored
narrowed_is_stored c old now n i stored g = still_stored old now n i g c stored

-- ---- what is left is all that was gained of what was there
module _ (old now : Relvars) (n : ℕ) (g : Grows now old n) where
  what_is_left : Gains (before_it old now n) (before_it old now n) n g.before
  what_is_left = record {
    before = g.after;
    after = g.after;
    was = as_it_was old now n ∙ g.is;
    is = as_it_was old now n ∙ g.is;
    old_heading = refl;
    new_heading = g.one_heading;
    either = λ t h. inl h;
    new = g.kept;
  }

  narrowed_is_now : narrowed n g.before (before_it old now n) ≡ now
  narrowed_is_now = λ i m. at m i
    where
      at : (m : ℕ) → narrowed n g.before (before_it old now n) m ≡ now m
      at m =
          ⊎_elim
          (λ same. ap (λ b. if b then Ok g.before else before_it old now n m) (eq-eqb m n same) ∙ sym g.was ∙ ap now (sym same))
          (λ apart. ap (λ b. if b then Ok g.before else before_it old now n m) (ne_eqb m n apart) ∙ sym (else_now old now n m apart))
          (cases_eq m n)

pub losses_keep_watched : LossesKeepWatched
losses_keep_watched c old now n x u base a g h e =
    let was = before_it old now n in
    let is = judged_before old now n c x u a e in
    sym (tested was was n g.before (what_is_left old now n g) c base (λ m apart. refl) x u h is ∙ ap (λ r. judgement c r (test.Constraint x u)) (narrowed_is_now old now n g)) ∙ is

-- ---- differences
-- what the one has and the difference has not, the other has
pub not_lost : (h : Header) (r s d : RowsData) → IsRelation h (set.difference (body r) (body s)) d → (t : Attrs) → Has r t → ◌⊎◌ (Has s t) (Has d t)
not_lost h r s d is t has = by (set.contains (body s) t) refl
  where
    by : (b : Bool) → set.contains (body s) t ≡ b → ◌⊎◌ (Has s t) (Has d t)
    by true e = inl e
    by false e = inr ((of_difference h r s d is).all t (has, λ there. true≢false (sym there ∙ e)))

pub differences_are_gains : DifferencesAreGains
differences_are_gains = record {
  gains = λ old now n d h.
      let is = of_difference h.before.heading h.after h.before d.inserted h.difference.inserted in
      record {
        before = h.before;
        after = h.after;
        was = h.was;
        is = h.is;
        old_heading = h.one_heading;
        new_heading = is.heading ∙ h.one_heading;
        either = not_lost h.before.heading h.after h.before d.inserted h.difference.inserted;
        new = λ t has. (is.only t has).0;
      };
  grows = λ old now n d h none. record {
    before = h.before;
    after = h.after;
    was = h.was;
    is = h.is;
    one_heading = h.one_heading;
    kept = λ t has. ⊎_elim (λ there. there) (λ lost. absurd (none t lost)) (not_lost h.before.heading h.before h.after d.deleted h.difference.deleted t has);
  };
  shrinks = λ old now n d h none. record {
    before = h.after;
    after = h.before;
    was = h.is;
    is = h.was;
    one_heading = sym h.one_heading;
    kept = λ t has. ⊎_elim (λ there. there) (λ gained. absurd (none t gained)) (not_lost h.before.heading h.after h.before d.inserted h.difference.inserted t has);
  };
}

-- ---- growth
module _ (old now : Relvars) (n : ℕ) (g : Grows old now n) (others : (m : ℕ) → (m ≡ n → ⊥) → now m ≡ old m) where
  nothing_lost : IsWider g.before g.after
  nothing_lost = record { old_heading = refl; new_heading = g.one_heading; either = λ t h. inl h; new = g.kept }

  unchanged : (x : Result RowsData Stop) → Wider x x
  unchanged (Ok a) = record { old_heading = refl; new_heading = refl; either = λ t h. inl h; new = λ t h. h }
  unchanged (Err e) = tt

  wider_others : (m : ℕ) → (m ≡ n → ⊥) → Wider (old m) (now m)
  wider_others m apart = subst (λ x. Wider x (now m)) (others m apart) (unchanged (now m))

  module _ (c : CatalogueData) (base : is_base (slice_get c.origins n) ≡ true) where
    grown : AreWiderAlike c n (selection_of c) old now
    grown = record {
      old = λ m unread. sym (others m (apart_from_it c n base m unread));
      new = λ m unread. refl;
      itself_related = subst (λ x. Wider x (now n)) (sym g.was) (subst (λ y. Wider (Ok g.before) y) (sym g.is) nothing_lost);
      virtual_related = λ m u is h. wider_others m (not_base c n base m u is);
    }

    still_true : (x : List ℕ) (u : Typed) → IsSafe c n u → judgement c old (test.Constraint x u) ≡ Ok true → judgement c now (test.Constraint x u) ≡ Ok true
    unfolding truth_in
    still_true x u h e = safe c n (selection_of c) (all_relvars c old) (all_relvars c now) (all_wider c n (selection_of c) base (places c.origins) old now grown) (within no_attrs no_names) u h e

pub growth_keeps_safe : GrowthKeepsSafe
growth_keeps_safe c old now n x u base a g h e =
    still_true (before_it old now n) now n (record { before = g.before; after = g.after; was = as_it_was old now n ∙ g.was; is = g.is; one_heading = g.one_heading; kept = g.kept }) (else_now old now n) c base x u h
    (judged_before old now n c x u a e)
