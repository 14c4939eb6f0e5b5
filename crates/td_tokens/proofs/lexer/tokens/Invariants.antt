use Rattle.std.proofs.Common.{length}
use Rattle.td_tokens.proofs.Progress.{IsReadTo}
use Rattle.td_tokens.proofs.lexer.tokens.Given as goal

abbrev pub invariant-loop-rest : goal.invariant-loop-rest
invariant-loop-rest l = IsReadTo l.source l.found.items l.start l.depth l.rest

abbrev pub decreases-loop-rest : goal.decreases-loop-rest
decreases-loop-rest l = length l.rest
