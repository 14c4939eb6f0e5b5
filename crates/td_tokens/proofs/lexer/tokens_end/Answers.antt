use Rattle.std.proofs.Common.{◌≡◌, Some, sym, ◌∙◌, subst, arith}
use Rattle.td_tokens.specs.Lexer.{next_piece}
use Rattle.td_tokens.proofs.Ends.{IsReadUpTo, boundary, moves, read_more, end_boundary, read_to_end}
use Rattle.td_tokens.proofs.lexer.tokens_end.Goals as goal
use Rattle.td_tokens.proofs.lexer.tokens_end.Goals.{In-Some}

is_next : (c : In-Some) → next_piece c.loop-taken.depth c.loop-taken.rest.now ≡ Some (c.in-Some.taken, c.in-Some.behind)
is_next c = sym c.next_piece.ensures ∙ c.in-Some.is

pub split_at-requires : goal.split_at-requires
split_at-requires c = boundary c.loop-taken.invariant _ (is_next (goal.at.split_at-requires c).In-Some)

pub loop-taken-smaller : goal.loop-taken-smaller
loop-taken-smaller c =
    let m = moves c.loop-taken.invariant _ (is_next (goal.at.loop-taken-smaller c).In-Some) in
    omega (arith, c.split_at.ensures.back_len)

pub loop-taken-preserved : goal.loop-taken-preserved
loop-taken-preserved c =
    let read = read_more c.loop-taken.invariant _ (is_next (goal.at.loop-taken-preserved c).In-Some) in
    subst (IsReadUpTo c.args.source.now c.in-Some.behind) (sym c.split_at.ensures.back) read

pub returns-clause-boundary : goal.returns-clause-boundary
returns-clause-boundary c = end_boundary _ _ _ c.loop-taken.invariant

pub returns-clause-whole : goal.returns-clause-whole
returns-clause-whole c = read_to_end _ _ _ c.loop-taken.invariant (sym c.next_piece.ensures ∙ c.in_default.is)
