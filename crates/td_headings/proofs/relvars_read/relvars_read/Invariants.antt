use Rattle.std.proofs.Common.{take}
use Rattle.td_headings.specs.ForProofs.RelvarsRead.{AreTold}
use Rattle.td_headings.proofs.relvars_read.relvars_read.Given as goal

abbrev pub invariant-loop-expr : goal.invariant-loop-expr
invariant-loop-expr l = AreTold (take l.expr-index l.exprs) l.told.items
