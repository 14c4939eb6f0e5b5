use Rattle.std.proofs.Common.{All, take}
use Rattle.td_accesses.specs.ForProofs.Depending.{TellsTest}
use Rattle.td_accesses.proofs.dependencies.Dependencies.of.Given as goal

abbrev pub invariant-loop-place : goal.invariant-loop-place
invariant-loop-place l = All (TellsTest l.catalogue l.relvars.items) (take l.place l.tests)
