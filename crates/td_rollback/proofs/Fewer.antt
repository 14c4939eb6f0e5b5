-- Fewer entries are run where only what is marked is walked.
use Rattle.std.proofs.Common.{◌≡◌, ◌≤◌, ◌+◌, ⊎_elim, ℕ, Bool, true, false, List, [], ◌∷◌, length, sym, subst, arith}
use Rattle.std.proofs.lemmas.Bool.{cases_lt}
use Rattle.td_stamps.specs.declared.entry.Entry.{Entry}
use Rattle.td_stamps.specs.Sets.{has}
use Rattle.td_stamps.proofs.EntryLemmas.{same-refl}
use Rattle.td_rollback.specs.Parts.{marked}
use Rattle.td_rollback.specs.Touched.{IsTouched, Runs, none_left, fresh, touched, untouched}
use Rattle.td_rollback.specs.ForProofs.Marked.{AreFlagged, new_one, no_more, old_one, with_flagged}
use Rattle.td_rollback.proofs.Members.{has_cases, has_first, has_later}
use Rattle.td_rollback.proofs.More.{not_fresh}
use Rattle.td_rollback.proofs.Parting.{lacks_marked}

-- these are among those
abbrev pub Among : List Entry → List Entry → Type 0
Among es fs = (x : Entry) → has es x ≡ true → has fs x ≡ true

both_more : (e : Entry) (es fs : List Entry) → Among es fs → Among (e ∷ es) (e ∷ fs)
both_more e es fs among x h = ⊎_elim (λ is. subst (λ (y : Entry). has (e ∷ fs) y ≡ true) (sym is) (has_first e fs)) (λ later. has_later e x fs (among x later)) (has_cases e x es h)

one_more : (e : Entry) (es fs : List Entry) → Among es fs → Among es (e ∷ fs)
one_more e es fs among x h = has_later e x fs (among x h)

module _ (F T : Entry → ℕ → Type 0) where
  still_touched : (few many : List Entry) (e : Entry) → Among few many → IsTouched F T few e → IsTouched F T many e
  still_touched few many e among h = (h.0, h.1, (h.2.0, among h.2.0 h.2.1, h.2.2))

  -- no number up to this one is that of the entries that are run
  abbrev pub Lacks : List Entry → List Entry → List Entry → ℕ → Type 0
  Lacks ran es fs most = (n : ℕ) → n ≤ most → Runs F T ran es fs n → ⊥

  pub no_more_run : (many few es fs : List Entry) (flags bs : List Bool) (n : ℕ) → Among few many → AreFlagged es flags fs → length bs ≡ length es → Runs F T many es fs n → Lacks few (marked bs es) (marked (with_flagged flags bs) fs) n → ⊥
  no_more_run many few es fs flags [] n among no_more each none_left lacks = lacks 0 (omega arith) none_left
  no_more_run many few es fs flags (b ∷ bs) n among no_more each h lacks = omega (arith, each)
  no_more_run many few es fs flags bs n among (new_one {flags = gs} {fs = hs} {e = e} new rest) each (fresh {n = m} never p) lacks =
      no_more_run (e ∷ many) (e ∷ few) es hs gs bs m (both_more e few many among) rest each p (λ k le q. lacks (k + 1) (omega (arith, le)) (fresh (lacks_marked e bs es new) q))
  no_more_run many few es fs flags bs n among (new_one {e = e} new rest) each (touched {es = ds} {y = y} is h p) lacks = not_fresh e y ds is new
  no_more_run many few es fs flags bs n among (new_one {e = e} new rest) each (untouched {es = ds} {y = y} is h p) lacks = not_fresh e y ds is new
  no_more_run many few es fs flags [] n among (old_one rest) each h lacks = omega (arith, each)
  no_more_run many few es fs flags (b ∷ bs) n among (old_one {es = ds} {e = e} rest) each (fresh never p) lacks = not_fresh e e ds (same-refl e) never
  no_more_run many few es fs flags (true ∷ bs) n among (old_one {flags = gs} {es = ds} {fs = hs} {e = e} rest) each (touched {n = m} is h p) lacks =
      let never : IsTouched F T few e → ⊥ = λ t. no_more_run (e ∷ many) (e ∷ few) ds hs gs bs m (both_more e few many among) rest (omega (arith, each)) p (λ k le q. lacks (k + 1) (omega (arith, le)) (touched is t q)) in
      no_more_run (e ∷ many) few ds hs gs bs m (one_more e few many among) rest (omega (arith, each)) p (λ k le q. lacks k (omega (arith, le)) (untouched is never q))
  no_more_run many few es fs flags (true ∷ bs) n among (old_one {flags = gs} {es = ds} {fs = hs} {e = e} rest) each (untouched is never p) lacks =
      no_more_run many few ds hs gs bs n among rest (omega (arith, each)) p (λ k le q. lacks k le (untouched is (λ t. never (still_touched few many e among t)) q))
  no_more_run many few es fs flags (false ∷ bs) n among (old_one {flags = gs} {es = ds} {fs = hs} {e = e} rest) each (touched {n = m} is h p) lacks =
      no_more_run (e ∷ many) few ds hs gs bs m (one_more e few many among) rest (omega (arith, each)) p (λ k le q. lacks k (omega (arith, le)) q)
  no_more_run many few es fs flags (false ∷ bs) n among (old_one {flags = gs} {es = ds} {fs = hs} rest) each (untouched is never p) lacks =
      no_more_run many few ds hs gs bs n among rest (omega (arith, each)) p lacks

  -- what each number of the marked ones bounds is bounded by that of all
  pub bounded : (es fs : List Entry) (flags bs : List Bool) (n now was : ℕ) → AreFlagged es flags fs → length bs ≡ length es → Runs F T [] es fs n → ((k : ℕ) → Runs F T [] (marked bs es) (marked (with_flagged flags bs) fs) k → now ≤ was + k) → now ≤ was + n
  bounded es fs flags bs n now was flagged each runs bounds = ⊎_elim
      (λ over. absurd (no_more_run [] [] es fs flags bs n (λ x h. h) flagged each runs (λ k le q. let most = bounds k q in omega (arith, le, most, over))))
      (λ within. within)
      (cases_lt (was + n) now)
