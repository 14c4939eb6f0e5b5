-- A replay is the history of all entries.
use Rattle.std.proofs.Common.{◌≡◌, ℕ, List, ◌∷◌, true, sym, subst}
use Rattle.td_stamps.specs.declared.entry.Entry.{Entry}
use Rattle.td_stamps.specs.Sets.{has}
use Rattle.td_stamps.specs.History.{nothing_ran, next_ran}
use Rattle.td_rollback.specs.Going.{AreAlikeBut}
use Rattle.td_rollback.specs.Laws.{ReplayIsHistory}
use Rattle.td_rollback.specs.Replays.{ended, ran_fresh, ran_again, kept}
use Rattle.td_rollback.specs.Touched.{IsTargetOf, IsTouched}
use Rattle.td_rollback.specs.ForProofs.Ways.{Way}
use Rattle.td_rollback.proofs.Members.{has_first, has_later}

module _ {S R : Type 0} (w : Way S R) where
  abbrev AreAlike : List Entry → S → S → Type 0
  AreAlike = AreAlikeBut w.Alike w.Target

  not_first : (e : Entry) (ran : List Entry) (n : ℕ) → (IsTargetOf w.Target (e ∷ ran) n → ⊥) → w.Target e n → ⊥
  not_first e ran n never h = never (e, has_first e ran, h)

  not_rest : (e : Entry) (ran : List Entry) (n : ℕ) → (IsTargetOf w.Target (e ∷ ran) n → ⊥) → IsTargetOf w.Target ran n → ⊥
  not_rest e ran n never h = never (h.0, has_later e h.0 ran h.1, h.2)

  -- where one of the entries changes its targets alone, the states stay alike but for their targets
  pub one_changes : (es : List Entry) (e : Entry) (s u v : S) → has es e ≡ true → AreAlike es s u → ((n : ℕ) → (w.Target e n → ⊥) → w.Alike u v n) → AreAlike es s v
  one_changes es e s u v there same change n never = w.goes.alike_through s u v n (same n never) (change n (λ h. never (e, there, h)))

  -- one state goes a step, or both do, or both go one step of one record
  pub one_goes : (ran : List Entry) (s u v : S) (e : Entry) (r : R) → w.Sound u → AreAlike ran s u → w.Step u e r v → AreAlike (e ∷ ran) s v
  one_goes ran s u v e r fine same step n never = w.goes.alike_through s u v n (same n (not_rest e ran n never)) (w.goes.change_targets u v e r n fine step (not_first e ran n never))

  pub both_go : (ran : List Entry) (s t u v : S) (e : Entry) (q r : R) → w.Sound s → w.Sound u → AreAlike ran s u → w.Step s e q t → w.Step u e r v → AreAlike (e ∷ ran) t v
  both_go ran s t u v e q r good fine same was step n never =
      w.goes.alike_through t s v n (w.goes.alike_back s t n (w.goes.change_targets s t e q n good was (not_first e ran n never))) (one_goes ran s u v e r fine same step n never)

  pub go_as_one : (ran : List Entry) (s t u v : S) (e : Entry) (r : R) → w.Sound s → w.Sound u → AreAlike ran s u → w.Step s e r t → w.Step u e r v → AreAlike ran t v
  go_as_one ran s t u v e r good fine same was step n never = w.goes.go_alike s t u v e r n good fine was step (same n never)

  -- an entry that is not touched has a step with the record that it had
  pub may_redo : (ran : List Entry) (s t u : S) (e : Entry) (r : R) → w.Sound s → w.Sound u → AreAlike ran s u → w.Step s e r t → (IsTouched w.Footprint w.Target ran e → ⊥) → (v : S) × w.Step u e r v
  may_redo ran s t u e r good fine same was clear = w.goes.by_footprint s t u e r good fine (λ n foot. same n (λ h. clear (n, foot, h))) was

  pub replay_is_history : ReplayIsHistory w.Sound w.Step w.Alike w.Footprint w.Target
  replay_is_history ran s u end last es fs old all good fine same nothing_ran ended = nothing_ran
  replay_is_history ran s u end last es fs old all good fine same history (ran_fresh {fs = gs} {t = v} {e = e} {r = r} {all = more} step rest) =
      next_ran step (replay_is_history (e ∷ ran) s v end last es gs old more good (w.goes.stay_sound u v e r fine step) (one_goes ran s u v e r fine same step) history rest)
  replay_is_history ran s u end last es fs old all good fine same (next_ran {t = t} was behind) (ran_again {es = hs} {fs = gs} {t = v} {e = e} {q = q} {r = r} {old = before} {all = more} step rest) =
      next_ran step (replay_is_history (e ∷ ran) t v end last hs gs before more (w.goes.stay_sound s t e q good was) (w.goes.stay_sound u v e r fine step) (both_go ran s t u v e q r good fine same was step) behind rest)
  replay_is_history ran s u end last es fs old all good fine same (next_ran {t = t} was behind) (kept {es = hs} {fs = gs} {t = v} {e = e} {r = r} {old = before} {all = more} clear again rest) =
      let k = may_redo ran s t u e r good fine same was clear in
      let step : w.Step u e r v = subst (w.Step u e r) (sym (again k.0 e k.1)) k.1 in
      next_ran step (replay_is_history ran t v end last hs gs before more (w.goes.stay_sound s t e r good was) (w.goes.stay_sound u v e r fine step) (go_as_one ran s t u v e r good fine same was step) behind rest)
