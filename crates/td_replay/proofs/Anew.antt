-- How many entries are run where none was held.
use Rattle.std.proofs.Common.{◌≡◌, ◌==◌, ℕ, true, eqb-true, List, [], ◌∷◌, length, refl, sym, subst, arith}
use Rattle.std.proofs.lemmas.List.{nil_from_length}
use Rattle.td_rollback.specs.Touched.{Runs, none_left, fresh}
use Rattle.td_stamps.specs.declared.entry.Entry.{Entry}
use Rattle.td_semantics.specs.Databases.{DatabaseData}
use Rattle.td_replay.specs.Counted.{RunsOver}
use Rattle.td_replay.specs.Noted.{AreTargetsOf, IsFootprintOf}

pub nothing : (es : List Entry) → true ≡ (length es == 0) → es ≡ []
nothing es none = nil_from_length es (eqb-true (length es) 0 (sym none))

-- where nothing was held each entry is run
all_run : (F T : Entry → ℕ → Type 0) (ran new : List Entry) (n : ℕ) → Runs F T ran [] new n → n ≡ length new
all_run F T ran [] n none_left = refl
all_run F T ran (e ∷ fs) n (fresh {n = k} h p) = let rest = all_run F T (e ∷ ran) fs k p in omega (arith, rest)

pub run_all_anew : (o : DatabaseData) (old new : List Entry) (n : ℕ) → old ≡ [] → RunsOver o old new n → n ≡ length new
run_all_anew o old new n none runs = all_run (IsFootprintOf o) (AreTargetsOf o) [] new n (subst (λ (es : List Entry). RunsOver o es new n) none runs)
