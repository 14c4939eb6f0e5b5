use Rattle.std.proofs.Common.{◌≡◌, ◌++◌, drop}
use Rattle.std.specs.Prelude.{slice_get}
use Rattle.std.specs.List.{filter_map}
use Rattle.td_headings.specs.Expressions.{virtual_of}
use Rattle.td_headings.proofs.expression.virtuals_at.Given as goal

abbrev pub invariant-loop-place : goal.invariant-loop-place
invariant-loop-place l = filter_map (λ n. virtual_of n (slice_get l.origins n)) l.places ≡ l.virtuals ++ filter_map (λ n. virtual_of n (slice_get l.origins n)) (drop l.place-index l.places)
