use Rattle.std.proofs.Common.{length}
use Rattle.td_tokens.proofs.Ends.{IsReadUpTo}
use Rattle.td_tokens.proofs.lexer.tokens_end.Given as goal

abbrev pub invariant-loop-taken : goal.invariant-loop-taken
invariant-loop-taken l = IsReadUpTo l.source l.depth l.rest

abbrev pub decreases-loop-taken : goal.decreases-loop-taken
decreases-loop-taken l = length l.rest
