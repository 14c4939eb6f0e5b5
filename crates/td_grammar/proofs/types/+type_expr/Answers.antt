use Rattle.std.proofs.Common.{◌≡◌, ap, arith}
use Rattle.td_grammar.specs.ForProofs.Reader.{type_at}
use Rattle.td_grammar.proofs.Turns.{deeper}
use Rattle.td_grammar.proofs.types.+type_expr.Goals as goal

pub returns-then-depth-eq0 : goal.returns-then-depth-eq0
unfolding type_at
returns-then-depth-eq0 t c = let none : c.args.depth ≡ 0 = omega arith in ap (λ n. type_at n c.args.tokens.now) none

pub returns : goal.returns
unfolding type_at
returns t c = rw (deeper (λ n. type_at n c.args.tokens.now) c.args.depth (omega arith)) c.type_expr.ensures
