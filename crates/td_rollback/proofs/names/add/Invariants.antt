use Rattle.std.proofs.Common.{◌↔◌, ◌⊎◌, ℕ, take}
use Rattle.std.specs.List.{Contains}
use Rattle.td_rollback.proofs.names.add.Given as goal

abbrev pub invariant-loop-place : goal.invariant-loop-place
invariant-loop-place l = (n : ℕ) → Contains l.names.items n ↔ (Contains (take l.place-index l.places) n ⊎ Contains l.fn.names.items n)
