use Rattle.std.proofs.Common.{take}
use Rattle.td_tuples.specs.Parts.{names_of}
use Rattle.td_algebra.specs.ForProofs.Index.{AreParts}
use Rattle.td_algebra.proofs.summarization.parts_of_runs.Given as goal

abbrev pub invariant-loop-at : goal.invariant-loop-at
invariant-loop-at l = AreParts (names_of l.heading) l.index.tuples.items (take l.at l.index.tuples.items) l.out.items
