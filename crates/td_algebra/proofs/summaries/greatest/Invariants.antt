use Rattle.std.proofs.Common.{◌≡◌, drop}
use Rattle.std.specs.List.{fold}
use Rattle.td_algebra.specs.Summaries.{greater}
use Rattle.td_algebra.proofs.summaries.greatest.Given as goal

abbrev pub invariant-loop-value : goal.invariant-loop-value
invariant-loop-value g l = fold greater l.best (drop l.value-index l.rest) ≡ fold greater l.initial.best l.rest
