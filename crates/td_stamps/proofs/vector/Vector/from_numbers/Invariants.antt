use Rattle.std.proofs.Common.{◌≡◌, ℕ, ltb, cond, None, get_or}
use Rattle.std.specs.FinMap as map
use Rattle.td_stamps.specs.ForProofs.{nonzero}
use Rattle.td_stamps.proofs.vector.Vector.from_numbers.Given as goal

abbrev pub invariant-loop-site : goal.invariant-loop-site
invariant-loop-site l = (q : ℕ) → map.get l.vector q ≡ cond (ltb q l.site) (nonzero (get_or l.numbers q 0)) None
