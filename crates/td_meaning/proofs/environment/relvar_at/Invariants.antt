use Rattle.std.proofs.Common.{◌≡◌, drop}
use Rattle.td_meaning.specs.ForProofs.Places.{is_known}
use Rattle.td_meaning.specs.Seen.{relvars_at}
use Rattle.td_meaning.proofs.environment.relvar_at.Given as goal

abbrev pub invariant-loop-known : goal.invariant-loop-known
invariant-loop-known g l =
    (is_known l.place l.relvars ≡ is_known l.place (drop l.known-index l.relvars))
    × (relvars_at l.relvars l.place ≡ relvars_at (drop l.known-index l.relvars) l.place)
