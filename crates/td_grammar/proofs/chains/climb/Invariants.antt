use Rattle.std.proofs.Common.{◌≡◌, ◌-◌}
use Rattle.td_syntax.specs.declared.tree.Expr.{Expr}
use Rattle.td_grammar.specs.ForProofs.Reader.{Reader, climb}
use Rattle.td_grammar.specs.ForProofs.Readings.{GoesOn}
use Rattle.td_grammar.proofs.chains.climb.Given as goal

abbrev pub invariant-loop-turn : goal.invariant-loop-turn
invariant-loop-turn g l = (go_on : Expr → Reader Expr) → GoesOn go_on (goal.T-post g l.turn) → climb l.binding go_on l.turns l.fn.left l.fn.tokens ≡ climb l.binding go_on (l.turns - l._turn) l.left l.tokens
