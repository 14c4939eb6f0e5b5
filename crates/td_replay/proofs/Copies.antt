-- Copies of what base relvars had, and the changes of statements taken back in them.
use Rattle.std.proofs.Common.{◌≡◌, ◌<◌, ◌+◌, ◌⊎◌, inl, inr, ⊎_elim, ℕ, List, [], ◌∷◌, ◌++◌, drop, take, get_or, length, Bool, true, false, true≢false, ◌||◌, ◌==◌, eq-eqb, Option, None, Some, IfOk, Result, Ok, Err, refl, ap, sym, ◌∙◌, subst, arith}
use Rattle.std.specs.List.{All, Contains, filter}
use Rattle.std.proofs.lemmas.List.{take_all, take_more}
use Rattle.td_values.specs.Data.{Datum, no_attrs}
use Rattle.td_values.specs.Rows.{RowsData}
use Rattle.td_relations.specs.Deltas.{DeltaData}
use Rattle.td_typed_trees.specs.declared.expression.Expression.{Expression}
use Rattle.td_headings.specs.Catalogues.{CatalogueData}
use Rattle.td_headings.specs.Expressions.{IsTree, no_tuple, reads}
use Rattle.td_headings.specs.Reached.{ReadsRelvar}
use Rattle.td_headings.proofs.ReadLemmas.{reads_those}
use Rattle.td_headings.proofs.WellTyped.{all_typed}
use Rattle.td_integrity.proofs.TreeReads.{trees_alike}
use Rattle.td_relvars.specs.Evaluated.{EvaluatesTo}
use Rattle.td_relvars.specs.Parts.{AreCopies, Copies, FitPart, or_there, with_copies, copy_at, part_of, undone_part}
use Rattle.td_relvars.proofs.Kept.{base_has}
use Rattle.td_relvars.proofs.PartLemmas.{all_belong, are_copies, copies_undone, has_none, is_copied, part_has, still_there}
use Rattle.td_relvars.proofs.Places.{ok_same}
use Rattle.td_algebra.proofs.Lists.{any_in, contains_in, filter_in, in_contains}
use Rattle.td_algebra.proofs.Runs.{same_at}
use Rattle.td_assign.specs.declared.ran.Ran.{Ran}
use Rattle.td_assign.proofs.Differing.{left_at}
use Rattle.td_assign.proofs.Leading.{undone_leads_back}
use Rattle.td_assign.proofs.Listed.{Changes}
use Rattle.td_stamps.specs.declared.entry.Entry.{Entry}
use Rattle.td_stamps.specs.declared.entry.Stamp.{Stamp}
use Rattle.td_stamps.specs.History.{History}
use Rattle.td_stamps.proofs.Histories as histories
use Rattle.td_rollback.proofs.Ends.{Ended, last_off}
use Rattle.td_semantics.proofs.OneOpening.{one_opening}
use Rattle.td_semantics.specs.Answers.{SaysValue}
use Rattle.td_semantics.specs.Databases.{Belongs, DatabaseData, IsDatabase, stored_relvars}
use Rattle.td_semantics.specs.Trees.{IsIn, tree_means}
use Rattle.td_semantics.specs.declared.answer.Answer.{Answer}
use Rattle.td_replay.specs.Noted.{IsLegalDatabase, Notes, opened_by}
use Rattle.td_replay.specs.ForProofs.Going.{catalogue_stays, stays_sound}
use Rattle.td_replay.specs.ForProofs.Past.{AreAt, HaveCopies, SaysAfter, Types, is_changed, is_changed_in}
use Rattle.td_replay.specs.ForProofs.Told.{IsLogged, Log, outcomes_of}
use Rattle.td_replay.proofs.Telling.{logged_history, outcomes_alone}

neither_true : (a b : Bool) → (a || b) ≡ false → (a ≡ false) × (b ≡ false)
neither_true false b h = (refl, h)
neither_true true b h = absurd (true≢false h)

either_way : (b : Bool) → (b ≡ true) ⊎ (b ≡ false)
either_way true = inl refl
either_way false = inr refl

-- no change of what is at the place
unlisted : (ds : Changes) (n : ℕ) → is_changed ds n ≡ false → (d : DeltaData) → Contains ds (n, d) → ⊥
unlisted ds n never d there = true≢false (sym (any_in (λ (p : ℕ × DeltaData). p.0 == n) ds (n, d) (contains_in ds (n, d) there) (eq-eqb n n refl)) ∙ never)

-- ---- copies of what there is now
have_copies : (d : DatabaseData) → IsDatabase d → (places : List ℕ) → HaveCopies d.catalogue places (part_of d.stored places)
have_copies d is places n there base =
    let has = base_has d is n base in
    (has.0, is_copied d.stored places n has.0 there has.1)

-- ---- one statement less
module _ (o : DatabaseData) (good : IsLegalDatabase o) (es : List Entry) (log : Log) (places : List ℕ) (i : ℕ) (copies : Copies) (each : length es ≡ length log) (within : i < length log) (p : Stamp × Ran) (x : Entry) (now : DatabaseData) (at : AreAt o now es log places (i + 1) copies) where
  abbrev e : Entry
  e = get_or es i x

  abbrev q : Stamp × Ran
  q = get_or log i p

  off : Ended Notes o (take i es) (take i log) e q at.state
  off = last_off Notes o at.state (take i es) (take i log) e q
      (subst (λ (ps : Log). History Notes o (take i es ++ e ∷ []) ps at.state) (take_more log i p within)
      (subst (λ (fs : List Entry). History Notes o fs (take (i + 1) log) at.state) (take_more es i x (omega (arith, each, within))) at.history))

  before_sound : IsLegalDatabase off.state
  before_sound = histories.kept Notes IsLegalDatabase (λ s t f r notes was. stays_sound s t f r was notes) o off.state (take i es) (take i log) off.history good

  after_sound : IsLegalDatabase at.state
  after_sound = stays_sound off.state at.state e q.1 before_sound off.step

  pub fits_at : FitPart copies q.1.delta.items
  fits_at y there r h =
      let change = (off.step.delta.only y there).change in
      let same : r ≡ change.after = ok_same r change.after (sym (at.copied (y.0, r) h) ∙ change.is) in
      change.difference.inserted.heading ∙ change.one_heading ∙ sym (ap (λ (z : RowsData). z.heading) same)

  here : drop i log ≡ q ∷ drop (i + 1) log
  here = left_at log i q within (same_at log i p q within)

  pub one_less : (new : Copies) → new ≡ undone_part q.1.delta.items copies → AreAt o now es log places i new
  one_less new is =
      let back = undone_leads_back off.state at.state q.1.delta.items before_sound.0 after_sound.0 (catalogue_stays off.state at.state e q.1 before_sound off.step) off.step.delta in
      record {
        state = off.state;
        history = off.history;
        copied = subst (λ (z : Copies). AreCopies z off.state.stored) (sym is) (subst (AreCopies (undone_part q.1.delta.items copies)) back (copies_undone q.1.delta.items copies at.state.stored at.copied));
        all = subst (HaveCopies o.catalogue places) (sym is) (λ m there base. let had = at.all m there base in still_there q.1.delta.items copies m had.0 had.1);
        others = λ m never.
            let neither = neither_true (is_changed q.1.delta.items m) (is_changed_in (drop (i + 1) log) m) (sym (ap (λ (ps : Log). is_changed_in ps m) here) ∙ never) in
            at.others m neither.1 ∙ off.step.delta.all m (unlisted q.1.delta.items m neither.0);
      }

-- ---- what is seen over the copies
module _ (d : DatabaseData) (is : IsDatabase d) (state : DatabaseData) (was : IsDatabase state) (same : state.catalogue ≡ d.catalogue) (copies : Copies) (are : AreCopies copies state.stored) where
  pub copies_belong : All (λ (p : ℕ × RowsData). Belongs d.catalogue p.0 p.1) copies
  copies_belong = subst (λ (c : CatalogueData). All (λ (p : ℕ × RowsData). Belongs c p.0 p.1) copies) same (all_belong state was copies are)

  -- a relvar that has a copy, or needs none
  pub sees : (n : ℕ) → (((r : RowsData) → Contains copies (n, r) → ⊥) → stored_relvars d.stored n ≡ stored_relvars state.stored n) → with_copies copies (stored_relvars d.stored) n ≡ stored_relvars state.stored n
  sees n otherwise = by (copy_at copies n) refl
    where
      by : (o : Option RowsData) → copy_at copies n ≡ o → or_there o (stored_relvars d.stored n) ≡ stored_relvars state.stored n
      by (Some r) h = sym (are (n, r) (part_has copies n r h))
      by None h = otherwise (λ r there. has_none copies n r h there)

  module _ (x : Expression) (t : IsTree d.catalogue no_tuple x.tree x.kind) (agree : (n : ℕ) → ReadsRelvar d.catalogue.origins x.tree n → with_copies copies (stored_relvars d.stored) n ≡ stored_relvars state.stored n) where
    pub means_over : tree_means d.catalogue (with_copies copies (stored_relvars d.stored)) x.tree no_attrs ≡ tree_means d.catalogue (stored_relvars state.stored) x.tree no_attrs
    means_over = trees_alike d.catalogue is.defined x.tree x.kind t (with_copies copies (stored_relvars d.stored)) (stored_relvars state.stored) agree

-- ---- the query
module _ (c : CatalogueData) (text : List ℕ) (x : Expression) (t : Types c text x) where
  pub query_tree : IsTree c no_tuple x.tree x.kind
  query_tree = record { expr = t.query; types = t.types.types }

  pub query_in : IsIn c x
  query_in = record { tree = query_tree; attributes = t.types.attributes; under = t.types.under }

-- ---- two histories of one script
pub one_catalogue : (script : List ℕ) (es fs : List Entry) (log others : Log) (d u : DatabaseData) → IsLogged script es log d → IsLogged script fs others u → u.catalogue ≡ d.catalogue
one_catalogue script es fs log others d u l m = ap (λ (z : DatabaseData). z.catalogue) (one_opening script None None (opened_by u.catalogue) (opened_by d.catalogue) m.opens l.opens).0

-- ---- what is told anew
pub says_anew : {E : Type 0} (script : List ℕ) (es : List Entry) (kept : ℕ) (log : Log) (d : DatabaseData) → IsLogged script (take kept es) log d → (x : Expression) (r : Result (Answer Datum) E) → IfOk r (EvaluatesTo d.catalogue (stored_relvars d.stored) x) → IfOk r (SaysAfter script es kept x)
says_anew script es kept log d l x (Ok r) says = record { state = d; outcomes = outcomes_of log; history = logged_history script (take kept es) log d l; says = says }
says_anew script es kept log d l x (Err e) says = tt

-- ---- all entries, and the first ones
module _ (script : List ℕ) (es : List Entry) (log : Log) (d : DatabaseData) (l : IsLogged script es log d) where
  abbrev origin : DatabaseData
  origin = opened_by d.catalogue

  pub as_many : length es ≡ length log
  as_many = sym (histories.as_many Notes origin d es log l.runs)

  at_end : (places : List ℕ) (copies : Copies) → AreCopies copies d.stored → HaveCopies d.catalogue places copies → AreAt origin d es log places (length log) copies
  at_end places copies are have =
      let each = as_many in
      record {
        state = d;
        history = subst (λ (fs : List Entry). History Notes origin fs (take (length log) log) d) (sym (take_all (length log) es (omega (arith, each))))
            (subst (λ (ps : Log). History Notes origin es ps d) (sym (take_all (length log) log (omega arith))) l.runs);
        copied = are;
        all = have;
        others = λ m never. refl;
      }

  pub copied_now : IsDatabase d → (places : List ℕ) (copies : Copies) → copies ≡ part_of d.stored places → AreAt origin d es log places (length log) copies
  copied_now is places copies same =
      at_end places copies
      (subst (λ (z : Copies). AreCopies z d.stored) (sym same) (are_copies d.stored places))
      (subst (HaveCopies d.catalogue places) (sym same) (have_copies d is places))

  module _ (places : List ℕ) (kept : ℕ) (copies : Copies) (at : AreAt origin d es log places kept copies) where
    pub was_sound : IsLegalDatabase at.state
    was_sound = histories.kept Notes IsLegalDatabase (λ s t e r notes good. stays_sound s t e r good notes) origin at.state (take kept es) (take kept log) at.history l.sound

    pub was_of : at.state.catalogue ≡ d.catalogue
    was_of =
        let P : DatabaseData → Type 0 = λ z. IsLegalDatabase z × (z.catalogue ≡ d.catalogue) in
        (histories.kept Notes P (λ s t e r notes good. (stays_sound s t e r good.0 notes, catalogue_stays s t e r good.0 notes ∙ good.1)) origin at.state (take kept es) (take kept log) at.history (l.sound, refl)).1

    -- those that the query reads and that changed since have copies
    abbrev AreRead : Expression → Type 0
    AreRead x = places ≡ filter (is_changed_in (drop kept log)) (reads x)

    at_place_of : (x : Expression) → AreRead x → (n : ℕ) → Contains (reads x) n → is_changed_in (drop kept log) n ≡ true → Contains places n
    at_place_of x read n there changed =
        subst (λ (ns : List ℕ). Contains ns n) (sym read)
        (in_contains (filter (is_changed_in (drop kept log)) (reads x)) n (filter_in (is_changed_in (drop kept log)) (reads x) n (contains_in (reads x) n there) changed))

    pub says_after : (x : Expression) (r : Answer Datum) → IsDatabase d → (text : List ℕ) (t : Types d.catalogue text x) → AreRead x → EvaluatesTo d.catalogue (with_copies copies (stored_relvars d.stored)) x r → SaysAfter script es kept x r
    says_after x r is text t read says =
        let those = reads_those d.catalogue (all_typed d.catalogue is.defined) x t.types.under in
        let agree = λ (n : ℕ) (h : ReadsRelvar d.catalogue.origins x.tree n). sees d is at.state was_sound.0 was_of copies at.copied n
        (λ none. ⊎_elim
        (λ changed. let had = at.all n (at_place_of x read n ((those.members n).1 h) changed) h.1 in absurd (none had.0 had.1))
        (λ never. at.others n never)
        (either_way (is_changed_in (drop kept log) n))) in
        let alike = means_over d is at.state was_sound.0 was_of copies at.copied x (query_tree d.catalogue text x t) agree in
        let there = alike ∙ ap (λ (c : CatalogueData). tree_means c (stored_relvars at.state.stored) x.tree no_attrs) (sym was_of) in
        record {
          state = at.state;
          outcomes = outcomes_of (take kept log);
          history = record { opening = origin; opens = l.opens; runs = outcomes_alone origin at.state (take kept es) (take kept log) at.history };
          says = subst (SaysValue r) there says;
        }

    pub says_back : {E : Type 0} (x : Expression) (r : Result (Answer Datum) E) → IsDatabase d → (text : List ℕ) (t : Types d.catalogue text x) → AreRead x → IfOk r (EvaluatesTo d.catalogue (with_copies copies (stored_relvars d.stored)) x) → IfOk r (SaysAfter script es kept x)
    says_back x (Ok r) is text t read says = says_after x r is text t read says
    says_back x (Err e) is text t read says = tt
