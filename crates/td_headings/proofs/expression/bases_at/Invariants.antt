use Rattle.std.proofs.Common.{◌≡◌, ◌++◌, drop}
use Rattle.std.specs.Prelude.{slice_get}
use Rattle.std.specs.List.{filter_map}
use Rattle.td_headings.specs.Expressions.{base_of}
use Rattle.td_headings.proofs.expression.bases_at.Given as goal

abbrev pub invariant-loop-place : goal.invariant-loop-place
invariant-loop-place l = filter_map (λ n. base_of n (slice_get l.origins n) (slice_get l.schema.relvars n)) l.places ≡ l.bases ++ filter_map (λ n. base_of n (slice_get l.origins n) (slice_get l.schema.relvars n)) (drop l.place-index l.places)
