-- One turn of a replay.
use Rattle.std.proofs.Common.{◌≡◌, ◌↔◌, ◌≤◌, ◌+◌, ◌⊎◌, inl, inr, ⊎_elim, ℕ, true, false, List, [], ◌∷◌, ◌++◌, drop, refl, ap, sym, subst, ◌∙◌, arith}
use Rattle.std.specs.List.{Contains}
use Rattle.td_stamps.specs.declared.entry.Entry.{Entry}
use Rattle.td_stamps.specs.declared.entry.Stamp.{Stamp}
use Rattle.td_stamps.specs.Entries.{same, stamp_of}
use Rattle.td_stamps.specs.Sets.{has}
use Rattle.td_stamps.specs.History.{History, nothing_ran, next_ran}
use Rattle.td_stamps.proofs.EntryLemmas.{same-refl}
use Rattle.td_stamps.proofs.Histories as histories
use Rattle.td_rollback.specs.Touched.{AreMore, IsTargetOf, IsTouched, Runs, fresh, touched, untouched}
use Rattle.td_rollback.specs.Turns.{settled}
use Rattle.td_rollback.specs.ForProofs.Standing.{Begun, Stands, passed}
use Rattle.td_rollback.specs.ForProofs.Ways.{Way}
use Rattle.td_rollback.specs.declared.turns.ReplayedRecord.{ReplayedRecord}
use Rattle.td_rollback.specs.declared.turns.ReplayedRecord.TheVariants.{Kept, Again, Fresh}
use Rattle.td_rollback.proofs.Members.{has_cases, has_first, has_later, has_none, item_none}
use Rattle.td_rollback.proofs.More as more
use Rattle.td_rollback.proofs.More.{not_fresh}
use Rattle.td_rollback.proofs.Selecting as selecting
use Rattle.td_rollback.proofs.Settling.{again_last, again_passed, fresh_last, fresh_passed, kept_last, kept_passed, one_further}

-- ---- a history's first entry
pub record Headed {S R : Type 0} (Step : S → Entry → R → S → Type 0) (s : S) (e : Entry) (es : List Entry) (k : Stamp) (r : R) (old : List (Stamp × R)) (last : S) : Type 0 where
  pub state : S
  pub stamp : k ≡ stamp_of e
  pub step : Step s e r state
  pub behind : History Step state es old last

headed : {S R : Type 0} (Step : S → Entry → R → S → Type 0) (s : S) (e : Entry) (es : List Entry) (k : Stamp) (r : R) (old : List (Stamp × R)) (last : S) → History Step s (e ∷ es) ((k, r) ∷ old) last → Headed Step s e es k r old last
headed Step s e es k r old last (next_ran {t = t} step rest) = record { state = t; stamp = refl; step = step; behind = rest }

-- ---- counts, taken apart
module _ (F T : Entry → ℕ → Type 0) where
  -- of so many one is run, and the others behind it
  abbrev OneMore : List Entry → List Entry → List Entry → Entry → ℕ → Type 0
  OneMore ran es fs e m = (l : ℕ) × Runs F T (e ∷ ran) es fs l × (m ≡ l + 1)

  runs_fresh : (ran es fs : List Entry) (e : Entry) (m : ℕ) → has es e ≡ false → Runs F T ran es (e ∷ fs) m → OneMore ran es fs e m
  runs_fresh ran es fs e m lacks (fresh {n = l} h p) = (l, p, refl)
  runs_fresh ran (y ∷ es) fs e m lacks (touched is h p) = not_fresh e y es is lacks
  runs_fresh ran (y ∷ es) fs e m lacks (untouched is h p) = not_fresh e y es is lacks

  runs_touched : (ran es fs : List Entry) (e y : Entry) (m : ℕ) → same e y ≡ true → IsTouched F T ran e → Runs F T ran (y ∷ es) (e ∷ fs) m → OneMore ran es fs e m
  runs_touched ran es fs e y m one is (fresh {n = l} h p) = not_fresh e y es one h
  runs_touched ran es fs e y m one is (touched {n = l} be h p) = (l, p, refl)
  runs_touched ran es fs e y m one is (untouched be h p) = absurd (h is)

  runs_untouched : (ran es fs : List Entry) (e y : Entry) (m : ℕ) → same e y ≡ true → (IsTouched F T ran e → ⊥) → Runs F T ran (y ∷ es) (e ∷ fs) m → Runs F T ran es fs m
  runs_untouched ran es fs e y m one never (fresh {n = l} h p) = not_fresh e y es one h
  runs_untouched ran es fs e y m one never (touched {n = l} be h p) = absurd (never h)
  runs_untouched ran es fs e y m one never (untouched be h p) = p

-- ---- turns
module _ {S R : Type 0} (w : Way S R) (b : Begun S R) where
  abbrev StandsAt : List Entry → List (Stamp × R) → List Entry → List Entry → List ℕ → List (ReplayedRecord R) → S → ℕ → Type 0
  StandsAt es old before fs names turns u count = Stands w b (record { old = es; log = old; before = before; new = fs }) names turns u count

  pub begins : (last : S) → w.Sound b.state → History w.Step b.state b.old b.log last → AreMore b.old b.new → StandsAt b.old b.log [] b.new [] [] b.state b.count
  begins last sound history among = record {
    ran = [];
    was = b.state;
    last = last;
    was_sound = sound;
    is_sound = sound;
    alike = λ n never. w.goes.alike_self b.state n;
    named = λ n. (λ h. item_none n h, λ h. has_none h.0 h.1);
    rest = history;
    done = nothing_ran;
    left = refl;
    more = among;
    counted = λ n h. (n, h, omega arith);
  }

  -- names, with those of one entry more
  abbrev Adds : Entry → List ℕ → List ℕ → Type 0
  Adds e names now = (n : ℕ) → Contains now n ↔ (w.Target e n ⊎ Contains names n)

  more_names : (ran : List Entry) (e : Entry) (names now : List ℕ) → ((n : ℕ) → Contains names n ↔ IsTargetOf w.Target ran n) → Adds e names now → (n : ℕ) → Contains now n ↔ IsTargetOf w.Target (e ∷ ran) n
  more_names ran e names now named adds n = (
    λ h. ⊎_elim (λ t. (e, has_first e ran, t)) (λ k. let f = (named n).0 k in (f.0, has_later e f.0 ran f.1, f.2)) ((adds n).0 h),
    λ h. (adds n).1 (⊎_elim (λ is. inl (subst (λ (f : Entry). w.Target f n) is h.2)) (λ later. inr ((named n).1 (h.0, later, h.2))) (has_cases e h.0 ran h.1)),
  )

  module _ (es fs before : List Entry) (old : List (Stamp × R)) (e : Entry) (names : List ℕ) (turns : List (ReplayedRecord R)) (u : S) (count : ℕ) where
    -- a fresh entry
    module _ (s : StandsAt es old before (e ∷ fs) names turns u count) (lacks : has es e ≡ false) where
      pub fresh_counted : (n : ℕ) → Runs w.Footprint w.Target [] b.old b.new n → count + 1 ≤ b.count + n
      fresh_counted n h = let k = s.counted n h in let l = runs_fresh w.Footprint w.Target s.ran es fs e k.0 lacks k.1 in let le = k.2 in let is = l.2 in omega (arith, le, is)

      pub fresh_turn : (v : S) (r : R) (now : List ℕ) (most : ℕ) → w.Step u e r v → Adds e names now → most ≤ count + 1 → StandsAt es old (before ++ e ∷ []) fs now (turns ++ Fresh (stamp_of e, r) ∷ []) v most
      fresh_turn v r now most step adds few = record {
        ran = e ∷ s.ran;
        was = s.was;
        last = s.last;
        was_sound = s.was_sound;
        is_sound = w.goes.stay_sound u v e r s.is_sound step;
        alike = selecting.one_goes w s.ran s.was u v e r s.is_sound s.alike step;
        named = more_names s.ran e names now s.named adds;
        rest = s.rest;
        done = subst (λ ps. History w.Step b.state (before ++ e ∷ []) ps v) (sym (fresh_last b.log turns (stamp_of e, r))) (histories.one_more w.Step b.state u v before (settled b.log turns) e r s.done step);
        left = ap (λ n. drop n b.log) (fresh_passed turns (stamp_of e, r)) ∙ s.left;
        more = more.fresh_on e es fs lacks s.more;
        counted = λ n h.
            let k = s.counted n h in
            let l = runs_fresh w.Footprint w.Target s.ran es fs e k.0 lacks k.1 in
            let le = k.2 in
            let is = l.2 in
            (l.0, l.1, omega (arith, le, is, few));
      }

    -- an old one
    module _ (k : Stamp) (q : R) (s : StandsAt (e ∷ es) ((k, q) ∷ old) before (e ∷ fs) names turns u count) where
      pub head : Headed w.Step s.was e es k q old s.last
      head = headed w.Step s.was e es k q old s.last s.rest

      was_sound : w.Sound head.state
      was_sound = w.goes.stay_sound s.was head.state e q s.was_sound head.step

      -- its record has its places
      pub footprint_is : (n : ℕ) → Contains (w.footprint_in q) n ↔ w.Footprint e n
      footprint_is = w.goes.name_footprint s.was head.state e q s.was_sound head.step

      pub targets_are : (n : ℕ) → Contains (w.targets_in q) n ↔ w.Target e n
      targets_are = w.goes.name_targets s.was head.state e q s.was_sound head.step

      abbrev Met : Type 0
      Met = (n : ℕ) × Contains (w.footprint_in q) n × Contains names n

      pub is_touched : Met → IsTouched w.Footprint w.Target s.ran e
      is_touched met = (met.0, (footprint_is met.0).0 met.1, (s.named met.0).0 met.2)

      pub not_touched : (Met → ⊥) → IsTouched w.Footprint w.Target s.ran e → ⊥
      not_touched unmet h = unmet (h.0, (footprint_is h.0).1 h.1, (s.named h.0).1 h.2)

      module _ (met : Met) where
        pub again_counted : (n : ℕ) → Runs w.Footprint w.Target [] b.old b.new n → count + 1 ≤ b.count + n
        again_counted n h = let m = s.counted n h in let l = runs_touched w.Footprint w.Target s.ran es fs e e m.0 (same-refl e) (is_touched met) m.1 in let le = m.2 in let eq = l.2 in omega (arith, le, eq)

        pub again_turn : (v : S) (r : R) (now : List ℕ) (most : ℕ) → w.Step u e r v → Adds e names now → most ≤ count + 1 → StandsAt es old (before ++ e ∷ []) fs now (turns ++ Again (stamp_of e, r) ∷ []) v most
        again_turn v r now most step adds few = record {
          ran = e ∷ s.ran;
          was = head.state;
          last = s.last;
          was_sound = was_sound;
          is_sound = w.goes.stay_sound u v e r s.is_sound step;
          alike = selecting.both_go w s.ran s.was head.state u v e q r s.was_sound s.is_sound s.alike head.step step;
          named = more_names s.ran e names now s.named adds;
          rest = head.behind;
          done = subst (λ ps. History w.Step b.state (before ++ e ∷ []) ps v) (sym (again_last b.log turns (stamp_of e, r))) (histories.one_more w.Step b.state u v before (settled b.log turns) e r s.done step);
          left = ap (λ n. drop n b.log) (again_passed turns (stamp_of e, r)) ∙ one_further (passed turns) b.log (k, q) old s.left;
          more = more.old_on e es fs s.more;
          counted = λ n h.
              let m = s.counted n h in
              let l = runs_touched w.Footprint w.Target s.ran es fs e e m.0 (same-refl e) (is_touched met) m.1 in
              let le = m.2 in
              let eq = l.2 in
              (l.0, l.1, omega (arith, le, eq, few));
        }

      module _ (unmet : Met → ⊥) where
        pub may_redo : (t : S) × w.Step u e q t
        may_redo = selecting.may_redo w s.ran s.was head.state u e q s.was_sound s.is_sound s.alike head.step (not_touched unmet)

        pub kept_turn : (v : S) → ((t : S) → w.Step u e q t → v ≡ t) → StandsAt es old (before ++ e ∷ []) fs names (turns ++ Kept ∷ []) v count
        kept_turn v again =
            let step : w.Step u e q v = subst (w.Step u e q) (sym (again may_redo.0 may_redo.1)) may_redo.1 in
            let record_is : settled b.log turns ++ (stamp_of e, q) ∷ [] ≡ settled b.log (turns ++ Kept ∷ []) = ap (λ (m : Stamp). settled b.log turns ++ (m, q) ∷ []) (sym head.stamp) ∙ sym (kept_last b.log turns (k, q) old s.left) in
            record {
              ran = s.ran;
              was = head.state;
              last = s.last;
              was_sound = was_sound;
              is_sound = w.goes.stay_sound u v e q s.is_sound step;
              alike = selecting.go_as_one w s.ran s.was head.state u v e q s.was_sound s.is_sound s.alike head.step step;
              named = s.named;
              rest = head.behind;
              done = subst (λ ps. History w.Step b.state (before ++ e ∷ []) ps v) record_is (histories.one_more w.Step b.state u v before (settled b.log turns) e q s.done step);
              left = ap (λ n. drop n b.log) (kept_passed turns) ∙ one_further (passed turns) b.log (k, q) old s.left;
              more = more.old_on e es fs s.more;
              counted = λ n h. let m = s.counted n h in (m.0, runs_untouched w.Footprint w.Target s.ran es fs e e m.0 (same-refl e) (not_touched unmet) m.1, m.2);
            }
