-- What meetings one after another keep.
use Rattle.std.proofs.Common.{◌≡◌, ℕ, true, List, [], ◌∷◌, ◌++◌}
use Rattle.td_stamps.specs.Sets.{has}
use Rattle.td_stamps.specs.declared.entry.Entry.{Entry}
use Rattle.td_convergence.specs.Trees.{Numbered, MeetInTurn, none_met, next_met, NoneClash}
use Rattle.td_convergence.proofs.Joining.{AllHeld, joined}

-- each number has what it had, and still no two entries clash
pub record Kept (w u : Numbered) : Type 0 where
  pub held : AllHeld u
  pub free : NoneClash u
  pub grows : (n : ℕ) (e : Entry) → has (w n).entries e ≡ true → has (u n).entries e ≡ true

pub kept : (ps : List (ℕ × ℕ)) (w u : Numbered) → AllHeld w → NoneClash w → MeetInTurn w ps u → Kept w u
kept [] w u held free (none_met) = record { held = held; free = free; grows = λ n e had. had }
kept (p ∷ ps) w u held free (next_met told rest) =
    let one = joined w p held free told in
    let all = kept ps _ u one.held one.free rest in
    record { held = all.held; free = all.free; grows = λ n e had. all.grows n e (one.grows n e had) }

-- meetings of two lists are meetings of the one and then of the other
pub split : (ps qs : List (ℕ × ℕ)) (w u : Numbered) → MeetInTurn w (ps ++ qs) u
    → (v : Numbered) × MeetInTurn w ps v × MeetInTurn v qs u
split [] qs w u met = (w, none_met, met)
split (p ∷ ps) qs w u (next_met told rest) =
    let (v, front, back) = split ps qs _ u rest in (v, next_met told front, back)
