use Rattle.std.proofs.Common.{arith}
use Rattle.td_grammar.proofs.Knot.{no_depth, no_levels, one_deeper}
use Rattle.td_grammar.proofs.grammar.+expr.Goals as goal

pub returns-then-depth-eq0 : goal.returns-then-depth-eq0
returns-then-depth-eq0 t c = no_depth c.args.depth c.args.levels c.args.form c.args.tokens.now (omega arith)

pub returns-then-levels-eq0 : goal.returns-then-levels-eq0
returns-then-levels-eq0 t c = no_levels c.args.depth c.args.levels c.args.form c.args.tokens.now (omega arith)

pub returns : goal.returns
returns t c = rw (one_deeper c.args.depth c.args.levels c.args.form c.args.tokens.now (omega arith) (omega arith)) c.limited.ensures
