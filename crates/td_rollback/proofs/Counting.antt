-- New entries have one number of entries that are run.
use Rattle.std.proofs.Common.{◌≡◌, ◌≤◌, ⊎_elim, ℕ, ◌+◌, Bool, true, false, List, [], ◌∷◌, length, refl, ap, arith}
use Rattle.std.proofs.lemmas.Bool.{cases_lt}
use Rattle.td_stamps.specs.declared.entry.Entry.{Entry}
use Rattle.td_stamps.specs.Entries.{same}
use Rattle.td_rollback.specs.Laws.{RunsAreFew, RunsAreOne, RunsAreThere}
use Rattle.td_rollback.specs.Touched.{AreMore, IsTouched, Runs, none_left, fresh, touched, untouched}
use Rattle.td_rollback.proofs.More as more
use Rattle.td_rollback.proofs.More.{not_fresh}

pub runs_are_one : (F T : Entry → ℕ → Type 0) → RunsAreOne F T
runs_are_one F T ran [] [] m n none_left none_left = refl
runs_are_one F T ran (y ∷ es) [] m n p q = elim p [ ]
runs_are_one F T ran es (e ∷ fs) m n (fresh {n = k} h p) (fresh {n = l} i q) = ap (λ z. z + 1) (runs_are_one F T (e ∷ ran) es fs k l p q)
runs_are_one F T ran (y ∷ es) (e ∷ fs) m n (fresh h p) (touched is j q) = not_fresh e y es is h
runs_are_one F T ran (y ∷ es) (e ∷ fs) m n (fresh h p) (untouched is j q) = not_fresh e y es is h
runs_are_one F T ran (y ∷ es) (e ∷ fs) m n (touched is j p) (fresh i q) = not_fresh e y es is i
runs_are_one F T ran (y ∷ es) (e ∷ fs) m n (touched {n = k} is j p) (touched {n = l} be g q) = ap (λ z. z + 1) (runs_are_one F T (e ∷ ran) es fs k l p q)
runs_are_one F T ran (y ∷ es) (e ∷ fs) m n (touched is j p) (untouched be g q) = absurd (g j)
runs_are_one F T ran (y ∷ es) (e ∷ fs) m n (untouched is j p) (fresh i q) = not_fresh e y es is i
runs_are_one F T ran (y ∷ es) (e ∷ fs) m n (untouched is j p) (touched be g q) = absurd (j g)
runs_are_one F T ran (y ∷ es) (e ∷ fs) m n (untouched {n = k} is j p) (untouched {n = l} be g q) = runs_are_one F T ran es fs k l p q

pub runs_are_few : (F T : Entry → ℕ → Type 0) → RunsAreFew F T
runs_are_few F T ran [] [] n none_left = omega arith
runs_are_few F T ran (y ∷ es) [] n p = elim p [ ]
runs_are_few F T ran es (e ∷ fs) n (fresh {n = k} h p) = let few = runs_are_few F T (e ∷ ran) es fs k p in omega (arith, few)
runs_are_few F T ran (y ∷ es) (e ∷ fs) n (touched {n = k} is h p) = let few = runs_are_few F T (e ∷ ran) es fs k p in omega (arith, few)
runs_are_few F T ran (y ∷ es) (e ∷ fs) n (untouched {n = k} is h p) = let few = runs_are_few F T ran es fs k p in omega (arith, few)

module _ (F T : Entry → ℕ → Type 0) where
  -- it cannot be that there is no number
  abbrev Lacks : List Entry → List Entry → List Entry → Type 0
  Lacks ran es fs = (n : ℕ) → Runs F T ran es fs n → ⊥

  by_first : (b : Bool) (ran es fs : List Entry) (e y : Entry) → same e y ≡ b → AreMore (y ∷ es) (e ∷ fs) → (AreMore es fs → Lacks (e ∷ ran) es fs → ⊥) → (AreMore es fs → Lacks ran es fs → ⊥) → (AreMore (y ∷ es) fs → Lacks (e ∷ ran) (y ∷ es) fs → ⊥) → Lacks ran (y ∷ es) (e ∷ fs) → ⊥
  by_first true ran es fs e y is among again kept later lacks =
      let behind = more.same_on e y es fs is among in
      let never : IsTouched F T ran e → ⊥ = λ h. again behind (λ n p. lacks (n + 1) (touched is h p)) in
      kept behind (λ n p. lacks n (untouched is never p))
  by_first false ran es fs e y is among again kept later lacks =
      let new = more.other_is_fresh e y es fs is among in
      later (more.fresh_on e (y ∷ es) fs new among) (λ n p. lacks (n + 1) (fresh new p))

  pub runs_are_there : RunsAreThere F T
  runs_are_there ran [] [] among lacks = lacks 0 none_left
  runs_are_there ran (y ∷ es) [] among lacks = more.none_left y es among
  runs_are_there ran [] (e ∷ fs) among lacks = runs_are_there (e ∷ ran) [] fs (more.fresh_on e [] fs refl among) (λ n p. lacks (n + 1) (fresh refl p))
  runs_are_there ran (y ∷ es) (e ∷ fs) among lacks = by_first (same e y) ran es fs e y refl among (runs_are_there (e ∷ ran) es fs) (runs_are_there ran es fs) (runs_are_there (e ∷ ran) (y ∷ es) fs) lacks

  -- what each number bounds is bounded by all
  pub at_most_all : (old new : List Entry) (now was : ℕ) → AreMore old new → ((n : ℕ) → Runs F T [] old new n → now ≤ was + n) → now ≤ was + length new
  at_most_all old new now was among bounds = ⊎_elim
      (λ over. absurd (runs_are_there [] old new among (λ n p. let few = runs_are_few F T [] old new n p in let most = bounds n p in omega (arith, few, most, over))))
      (λ within. within)
      (cases_lt (was + length new) now)
