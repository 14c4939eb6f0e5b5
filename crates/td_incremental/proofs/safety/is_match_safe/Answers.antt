use Rattle.std.proofs.Common.{sym, ◌∙◌}
use Rattle.td_incremental.proofs.Judging.{safe_matched}
use Rattle.td_incremental.proofs.safety.is_match_safe.Goals as goal

pub returns-then-unread : goal.returns-then-unread
returns-then-unread c = λ is.
    safe_matched c.args.catalogue.now c.args.relvar c.args.operand.now c.in-Binary.operator c.in-Binary.a c.in-Binary.b c.get.result.now c.get-in-Binary.result.now
    c.in-Binary.is (sym c.is_not_matching.ensures ∙ c.if-not-is_not_matching.false) c.get.ensures c.get-in-Binary.ensures
    (c.in_ok-unread-in-Binary.ensures c.if-unread.true) (c.widens-all_there.ensures is)
