use Rattle.std.proofs.Common.{◌≡◌, drop}
use Rattle.std.specs.List.{fold}
use Rattle.td_algebra.specs.Summaries.{lesser_of}
use Rattle.td_algebra.proofs.summaries.least.Given as goal

abbrev pub invariant-loop-value : goal.invariant-loop-value
invariant-loop-value g l = fold lesser_of l.best (drop l.value-index l.rest) ≡ fold lesser_of l.initial.best l.rest
