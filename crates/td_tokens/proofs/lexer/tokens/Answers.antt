use Rattle.std.proofs.Common.{◌≡◌, ◌<◌, Some, length, is_ok, refl, ap, sym, ◌∙◌, arith}
use Rattle.std.proofs.ResultArms.{chosen}
use Rattle.td_tokens.specs.Lexer.{front}
use Rattle.td_tokens.proofs.Progress.{boundary, moves, read_white, read_token, read_too_deep, read_whole, read_stuck, nonempty_if, empty_if, read_as}
use Rattle.td_tokens.proofs.lexer.tokens.Goals as goal
use Rattle.td_tokens.proofs.lexer.tokens.Goals.{After-front, In_ok-piece}

-- there is text left to read
left : (c : After-front) → 0 < length c.loop-rest.rest.now
left c = nonempty_if c.loop-rest.rest.now c.is_empty.result c.is_empty.ensures c.loop-rest-test.true

-- and this piece is at its front
is_front : (c : In_ok-piece) → front c.loop-rest.rest.now ≡ Some c.in_ok-piece.piece
is_front c = sym c.front.ensures ∙ c.in_ok-piece.ensures.ok_part

pub split_at-requires : goal.split_at-requires
split_at-requires c = boundary c.loop-rest.invariant c.in_ok-piece.piece (is_front (goal.at.split_at-requires c).In_ok-piece)

pub returns-in_err-piece-clause-syntax : goal.returns-in_err-piece-clause-syntax
returns-in_err-piece-clause-syntax c h =
    let none = sym c.front.ensures ∙ c.in_err-piece.ensures.ok_part in
    read_stuck _ _ _ _ _ c.loop-rest.invariant (left (goal.at.returns-in_err-piece-clause-syntax c).After-front) none

pub returns-then-depth-gt-MOST_OPEN-clause-syntax : goal.returns-then-depth-gt-MOST_OPEN-clause-syntax
returns-then-depth-gt-MOST_OPEN-clause-syntax c h =
    let at = goal.at.returns-then-depth-gt-MOST_OPEN-clause-syntax c in
    let e = c.open_after-depth.ensures in
    let deep = c.if-depth-gt-MOST_OPEN.true in
    read_too_deep c.loop-rest.invariant c.in_ok-piece.piece (is_front at.In_ok-piece) c.in-Some.kind c.in-Some.is (omega arith)

pub loop-rest-smaller-in_ok-push : goal.loop-rest-smaller-in_ok-push
loop-rest-smaller-in_ok-push c =
    let at = goal.at.loop-rest-smaller-in_ok-push c in
    let forward = moves c.loop-rest.invariant c.in_ok-piece.piece (is_front at.In_ok-piece) in
    omega (arith, c.split_at.ensures.back_len)

pub loop-rest-preserved-in_ok-push : goal.loop-rest-preserved-in_ok-push
loop-rest-preserved-in_ok-push c =
    let at = goal.at.loop-rest-preserved-in_ok-push c in
    let e = c.open_after-depth.ensures in
    let shallow = c.if-depth-gt-MOST_OPEN.false in
    read_as _ _ _ _ _ _ _ _ (chosen _ _ _ _ c.push.ensures.items (ap is_ok c.in_ok-push.was)) e c.split_at.ensures.back
    (read_token c.loop-rest.invariant c.in_ok-piece.piece (is_front at.In_ok-piece) c.in-Some.kind _ c.in-Some.is refl c.split_at.ensures.front refl refl (omega arith))

pub loop-rest-smaller : goal.loop-rest-smaller
loop-rest-smaller c =
    let at = goal.at.loop-rest-smaller c in
    let forward = moves c.loop-rest.invariant c.in_ok-piece.piece (is_front at.In_ok-piece) in
    omega (arith, c.split_at.ensures.back_len)

pub loop-rest-preserved : goal.loop-rest-preserved
loop-rest-preserved c =
    let at = goal.at.loop-rest-preserved c in
    read_as _ _ _ _ _ _ _ _ refl refl c.split_at.ensures.back
    (read_white c.loop-rest.invariant c.in_ok-piece.piece (is_front at.In_ok-piece) c.in_default-kind.is)

pub returns-clause-ok : goal.returns-clause-ok
returns-clause-ok c = read_whole _ _ _ _ _ c.loop-rest.invariant (empty_if c.loop-rest.rest.now c.is_empty.result c.is_empty.ensures c.loop-rest-test.false)
