use Rattle.std.proofs.Common.{◌≡◌, drop}
use Rattle.td_semantics.specs.Tests.{failing}
use Rattle.td_integrity.proofs.judging.first_of_all.Given as goal

abbrev pub invariant-loop-place : goal.invariant-loop-place
invariant-loop-place g l = failing l.catalogue (g.L.Lookup.relvars l.lookup) (drop l.place l.tests) ≡ failing l.catalogue (g.L.Lookup.relvars l.lookup) l.tests
