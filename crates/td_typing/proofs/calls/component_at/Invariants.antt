use Rattle.std.proofs.Common.{◌≡◌, ◌-◌, length, drop}
use Rattle.td_schema.specs.Schemas.{first_from, is_named}
use Rattle.td_typing.proofs.calls.component_at.Given as goal

abbrev pub invariant-loop-at : goal.invariant-loop-at
invariant-loop-at l = first_from 0 (is_named l.name) l.components ≡ first_from l.at (is_named l.name) (drop l.at l.components)

abbrev pub decreases-loop-at : goal.decreases-loop-at
decreases-loop-at l = length l.components - l.at
