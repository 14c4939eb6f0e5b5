use Rattle.std.proofs.Common.{◌≡◌, ◌++◌, drop}
use Rattle.std.specs.Prelude.{slice_get}
use Rattle.std.specs.List.{flat_map}
use Rattle.td_headings.specs.Reached.{named_possreps, possreps_under}
use Rattle.td_headings.proofs.reach.starts_of.Given as goal

abbrev pub invariant-loop-place : goal.invariant-loop-place
invariant-loop-place l =
    named_possreps l.tree ++ flat_map (λ m. possreps_under (slice_get l.origins m)) l.relvars
    ≡ l.starts.items ++ flat_map (λ m. possreps_under (slice_get l.origins m)) (drop l.place-index l.relvars)
