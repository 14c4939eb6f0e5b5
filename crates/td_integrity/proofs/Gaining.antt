-- What becomes of a constraint that was true before changes.
use Rattle.std.proofs.Common.{◌≡◌, ◌||◌, ⊎_elim, ℕ, List, length, inl, inr, Bool, true, false, [], ◌∷◌, Option, None, Some, MatchOption, Result, Ok, slice_get, refl, sym, ap, ◌∙◌, subst, true≢false}
use Rattle.std.specs.Borrow.{Bor}
use Rattle.std.specs.List.{All, Contains, filter, list_any}
use Rattle.std.specs.FinSet as set
use Rattle.td_values.specs.Data.{Attrs}
use Rattle.td_values.specs.Headings.{Header}
use Rattle.td_values.specs.Order.{attrs_order}
use Rattle.td_values.specs.Proving.Total.{attrs_tied}
use Rattle.td_values.proofs.Walks.{is_tied}
use Rattle.td_values.specs.Rows.{RowsData}
use Rattle.td_tuples.specs.Parts.{columns_in, cut}
use Rattle.td_relations.specs.Deltas.{DeltaData}
use Rattle.td_relations.specs.Sets.{Has, body}
use Rattle.td_relations.proofs.Predicates.{of_difference}
use Rattle.td_typed_trees.specs.declared.expression.BaseUnder.{BaseUnder}
use Rattle.td_typed_trees.specs.declared.expression.Expression.{Expression}
use Rattle.td_algebra.specs.Functions.{matching_of, not_matching_of, project_of}
use Rattle.td_algebra.specs.declared.errors.Stop.{Stop}
use Rattle.td_algebra.proofs.Bridges.{project_is}
use Rattle.td_algebra.proofs.Lists.{In, all_in, contains_in, in_contains, in_filter}
use Rattle.td_algebra.proofs.Made.{has_in}
use Rattle.td_algebra.proofs.Pairs.{entry_of}
use Rattle.td_algebra.specs.KeyIndexes.{IsKeyIndex, KeyIndexData}
use Rattle.td_algebra.specs.Keys.{shares_part}
use Rattle.td_headings.specs.Catalogues.{CatalogueData}
use Rattle.td_headings.specs.Definitions.{Defined}
use Rattle.td_headings.specs.Expressions.{places_of, reads}
use Rattle.td_headings.specs.Reached.{is_base}
use Rattle.td_meaning.specs.Mean.{Relvars}
use Rattle.td_incremental.specs.Growth.{AgreeBeside, Gains, IsWatched}
use Rattle.td_incremental.specs.Safety.{IsSafe}
use Rattle.td_eval.proofs.HasValues.{relvars_have_relations}
use Rattle.td_incremental.proofs.KeptParts.{kept_parts_keep_references}
use Rattle.td_incremental.proofs.LostParts.{lost_parts_are_judged}
use Rattle.td_incremental.proofs.Narrowing.{differences_are_gains, growth_keeps_safe, losses_keep_watched, narrowed_is_stored, not_lost, ok_same, watched_by_inserts}
use Rattle.td_incremental.specs.Laws.{has_none}
use Rattle.td_incremental.specs.References.{AreHeaded, GivesUp, KeepsParts, RefersBy}
use Rattle.td_semantics.specs.Differences.{ChangesBy, LeadOver}
use Rattle.td_semantics.specs.Stored.{AreStored}
use Rattle.td_type_soundness.specs.Meanings.{GivesRelation}
use Rattle.td_semantics.specs.Trees.{IsIn, all_relvars}
use Rattle.td_integrity.specs.ForProofs.Changed.{Changes, ConstraintBefore, is_changed}
use Rattle.td_integrity.specs.ForProofs.Gaining.{AreWays, IsLost, IsNarrowed, IsWay, truth_over}
use Rattle.td_integrity.specs.ForProofs.Leaving.{HasPartIn, KeepsReferences, LeavesParts}
use Rattle.td_integrity.specs.declared.losses.Losses.{Losses}
use Rattle.td_integrity.specs.declared.ways.Way.{Way}
use Rattle.td_integrity.specs.declared.ways.Way.TheVariants.{Stays, Over, Lost, Whole}
use Rattle.td_integrity.proofs.After.{still_true, untouched}
use Rattle.td_integrity.proofs.Judged.{are_bases}

-- one of the places of these has it where one of these has it of its place
pub any_of_places : (p : ℕ → Bool) (bs : List BaseUnder) → list_any p (places_of bs) ≡ list_any (λ (b : BaseUnder). p b.place) bs
any_of_places p [] = refl
any_of_places p (b ∷ bs) = λ i. p b.place || any_of_places p bs i

-- ---- what relvars have is of their headings
rows_headed : (c : CatalogueData) (h : Header) (x : Result RowsData Stop) (r : RowsData) → GivesRelation c.schema h x → x ≡ Ok r → r.heading ≡ h
rows_headed c h x r gives is = (subst (GivesRelation c.schema h) is gives).heading

are_headed : (c : CatalogueData) (now : Relvars) → Defined c → AreStored c now → AreHeaded c now
are_headed c now defined stored m v r at is = rows_headed c v.value (all_relvars c now m) r (relvars_have_relations c now m v defined (are_bases c now stored) at) is

-- ---- after one change
empty_has : (r : RowsData) → body r ≡ set.empty → (t : Attrs) → Has r t → ⊥
empty_has r none t has = true≢false (sym has ∙ ap (λ w. set.contains w t) none ∙ set.contains-empty attrs_order t)

module _ (c : CatalogueData) (x : Expression) (n : ℕ) (d : DeltaData) (base : is_base (slice_get c.origins n) ≡ true) where
  abbrev one : Changes
  one = (n, d) ∷ []

  module _ (before now : Relvars) (a : LeadOver before now one) where
    differs : ChangesBy before now n d
    differs = a.only (n, d) (in_contains one (n, d) (inl refl))

    beside : AgreeBeside c x.tree n before now
    beside m apart h = sym (a.all m (λ e there. elim (contains_in one (m, e) there) [ inl same ↦ apart (ap (λ (p : ℕ × DeltaData). p.0) same) | inr none ↦ none ]))

    gains : Gains before now n d.inserted
    gains = differences_are_gains.gains before now n d differs

  pub safe_stays : (r : RowsData) → r ≡ d.deleted → body r ≡ set.empty → IsSafe c n x.tree → IsWay c x one Stays
  safe_stays r is none safe before now stored a held =
      growth_keeps_safe c before now n [] x.tree base (beside before now a) (differences_are_gains.grows before now n d (differs before now a) (empty_has d.deleted (ap body (sym is) ∙ none))) safe held

  pub watched_stays : (r : RowsData) → r ≡ d.inserted → body r ≡ set.empty → IsWatched c n x.tree → IsWay c x one Stays
  watched_stays r is none watched before now stored a held =
      losses_keep_watched c before now n [] x.tree base (beside before now a) (differences_are_gains.shrinks before now n d (differs before now a) (empty_has d.inserted (ap body (sym is) ∙ none))) watched held

  pub watched_over : (i : Bor RowsData) → i.now ≡ d.inserted → IsWatched c n x.tree → IsWay c x one (Over n i)
  watched_over i is watched before now a held =
      subst (λ r. IsNarrowed c x n r now) (sym is)
      (record {
        same = watched_by_inserts c before now n d.inserted [] x.tree base (beside before now a) (gains before now a) watched held;
        stored = λ stored. narrowed_is_stored c before now n d.inserted stored (gains before now a);
      })

  -- what is taken out leaves its parts
  kept_parts : (names : List (List ℕ)) → LeavesParts names d → (before now : Relvars) → LeadOver before now one → KeepsParts before now n names
  kept_parts names leaves before now a =
      let differ = differs before now a in
      let gained = gains before now a in
      record {
        before = differ.before;
        after = differ.after;
        was = differ.was;
        is = differ.is;
        one_heading = differ.one_heading;
        kept = λ t has. ⊎_elim
            (λ there. (t, there, refl))
            (λ lost. let left = leaves t lost in (left.0, subst (λ (r : RowsData). Has r left.0) (ok_same gained.after differ.after (sym gained.is ∙ differ.is)) (gained.new left.0 left.1), left.2))
            (not_lost differ.before.heading differ.before differ.after d.deleted differ.difference.deleted t has);
      }

  pub references_stay : Defined c → KeepsReferences c (n, d) x → IsWay c x one Stays
  references_stay defined keeps before now stored a held =
      kept_parts_keep_references c before now n keeps.names [] x.tree base (beside before now a) (are_headed c now defined stored) (kept_parts keeps.names keeps.leaves before now a) keeps.refers held

  -- what is taken out gives its parts up
  gives_up : (names : List (List ℕ)) (before now : Relvars) → LeadOver before now one → GivesUp before now n names (project_of names d.deleted)
  gives_up names before now a =
      let differ = differs before now a in
      let out = of_difference differ.before.heading differ.before differ.after d.deleted differ.difference.deleted in
      let parts = project_is names d.deleted in
      record {
        before = differ.before;
        after = differ.after;
        was = differ.was;
        is = differ.is;
        one_heading = differ.one_heading;
        was_rows = differ.was_rows;
        heading = parts.heading ∙ ap (columns_in names) out.heading;
        either = λ t has. ⊎_elim (λ there. inl (t, there, refl)) (λ gone. inr (parts.all (cut names t) (t, gone, refl))) (not_lost differ.before.heading differ.before differ.after d.deleted differ.difference.deleted t has);
        only = λ p has. let from = parts.only p has in (from.0, (out.only from.0 from.1).0, from.2);
      }

  pub losses_tell : (l : Losses) (m : ℕ) (names : List (List ℕ)) → l.referred ≡ n → l.referring ≡ m → l.parts ≡ project_of names d.deleted → RefersBy c n m names x.tree → IsWay c x one (Lost l)
  losses_tell l m names at from parts refers before now stored a held =
      let in_one = stored m refers.one refers.base refers.one_there in
      let in_other = stored n refers.other base refers.other_there in
      record {
        one = in_one.0;
        other = in_other.0;
        one_is = ap now from ∙ in_one.1;
        other_is = ap now at ∙ in_other.1;
        told =
            lost_parts_are_judged c before now n m names (project_of names d.deleted) in_one.0 in_other.0 [] x.tree base (beside before now a) stored (gives_up names before now a) refers in_one.1 in_other.1 held
            ∙ ap (λ ps. Ok (has_none (matching_of (not_matching_of ps in_other.0) in_one.0))) (sym parts);
      }

-- ---- what an index finds
pub some_found : (p : Attrs → Bool) (xs ys : List Attrs) → ys ≡ filter p xs → (length ys ≡ 0 → ⊥) → (u : Attrs) × Contains xs u × (p u ≡ true)
some_found p xs [] is some = absurd (some refl)
some_found p xs (u ∷ us) is some = let k = in_filter p xs u (subst (In u) is (inl refl)) in (u, in_contains xs u k.0, k.1)

pub shared_part : (names : List (List ℕ)) (t u : Attrs) → shares_part names t u ≡ true → cut names u ≡ cut names t
shared_part names t u e = attrs_tied (cut names u) (cut names t) (is_tied (attrs_order (cut names u) (cut names t)) e)

pub leaves : (names : List (List ℕ)) (d : DeltaData) (x : KeyIndexData) → IsKeyIndex names d.inserted x → (ts : List Attrs) → ts ≡ d.deleted.tuples → All (HasPartIn x) ts → LeavesParts names d
leaves names d x is ts same found t has =
    let one = all_in (HasPartIn x) ts found t (subst (In t) (sym same) (has_in d.deleted t has)) in
    (one.0, entry_of d.inserted x.tuples is.tuples one.0 (contains_in x.tuples one.0 one.1), shared_part names t one.0 (subst (λ (ns : List (List ℕ)). shares_part ns t one.0 ≡ true) is.key one.2))

-- ---- after any
pub untouched_stays : (c : CatalogueData) (x : Expression) (changes : Changes) (b : Bool) → Defined c → IsIn c x → b ≡ list_any (is_changed changes) (reads x) → b ≡ false → IsWay c x changes Stays
untouched_stays c x changes b defined is told none before now stored a held =
    still_true c x now changes defined is (record { before = before; held = held; lead = a }) (untouched changes x b told none)

pub known_way : (c : CatalogueData) (x : Expression) (o : Option (Bor Changes)) (cs : Bor Changes) (w : Way) → o ≡ Some cs → IsWay c x cs.now w → AreWays c x o w
known_way c x o cs w is h = subst (λ o. AreWays c x o w) (sym is) h

-- ---- what is told of the constraint
lost_not_whole : (l : Losses) → Lost l ≡ Whole → ⊥
lost_not_whole l none = cc

over_not_whole : (n : ℕ) (i : Bor RowsData) → Over n i ≡ Whole → ⊥
over_not_whole n i no_way = cc

module _ (c : CatalogueData) (x : Expression) (now : Relvars) where
  abbrev Known : Option (Bor Changes) → Type 0
  Known o = MatchOption o (Unit {0}) (λ cs. ConstraintBefore c now cs.now x)

  stays_so : AreStored c now → (o : Option (Bor Changes)) → AreWays c x o Stays → Known o → truth_over c x now ≡ Ok true
  stays_so stored None h known = let no_way : Stays ≡ Whole = h in cc
  stays_so stored (Some cs) h known = h known.before now stored known.lead known.held

  over_so : (n : ℕ) (i : Bor RowsData) (o : Option (Bor Changes)) → AreWays c x o (Over n i) → Known o → IsNarrowed c x n i.now now
  over_so n i None h known = absurd (over_not_whole n i h)
  over_so n i (Some cs) h known = h known.before now known.lead known.held

  lost_so : AreStored c now → (l : Losses) (o : Option (Bor Changes)) → AreWays c x o (Lost l) → Known o → IsLost c x l now
  lost_so stored l None h known = absurd (lost_not_whole l h)
  lost_so stored l (Some cs) h known = h known.before now stored known.lead known.held

  module _ (o : Option (Bor Changes)) (w : Way) (h : AreWays c x o w) (known : Known o) where
    pub stays : AreStored c now → w ≡ Stays → truth_over c x now ≡ Ok true
    stays stored is = stays_so stored o (subst (AreWays c x o) is h) known

    pub over : (n : ℕ) (i : Bor RowsData) → w ≡ Over n i → IsNarrowed c x n i.now now
    over n i is = over_so n i o (subst (AreWays c x o) is h) known

    pub lost : AreStored c now → (l : Losses) → w ≡ Lost l → IsLost c x l now
    lost stored l is = lost_so stored l o (subst (AreWays c x o) is h) known
