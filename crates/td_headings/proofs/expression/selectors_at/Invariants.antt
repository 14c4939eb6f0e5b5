use Rattle.std.proofs.Common.{◌≡◌, ◌++◌, drop}
use Rattle.std.specs.Prelude.{slice_get}
use Rattle.std.specs.List.{filter_map}
use Rattle.td_headings.specs.Expressions.{selector_of}
use Rattle.td_headings.proofs.expression.selectors_at.Given as goal

abbrev pub invariant-loop-place : goal.invariant-loop-place
invariant-loop-place l = filter_map (λ n. selector_of n (slice_get l.schema.possreps n) (slice_get l.limits n)) l.places ≡ l.selectors ++ filter_map (λ n. selector_of n (slice_get l.schema.possreps n) (slice_get l.limits n)) (drop l.place-index l.places)
