use Rattle.std.proofs.Common.{◌≡◌, ◌-◌}
use Rattle.td_syntax.specs.declared.tree.Expr.{Expr}
use Rattle.td_grammar.specs.ForProofs.Reader.{Reader, operators, climb, binary_turn}
use Rattle.td_grammar.specs.ForProofs.Readings.{Follows}
use Rattle.td_grammar.proofs.chains.operators.Given as goal

abbrev pub invariant-loop-turn : goal.invariant-loop-turn
invariant-loop-turn g l = (at : Reader Expr) → Follows at (goal.O-post g l.operand) → operators l.binding at l.turns l.fn.tokens ≡ climb l.binding (binary_turn at) (l.turns - l._turn) l.left l.tokens
