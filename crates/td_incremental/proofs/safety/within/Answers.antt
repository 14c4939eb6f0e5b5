use Rattle.std.proofs.Common.{sym, ◌∙◌}
use Rattle.td_incremental.proofs.Judging.{around_is, within_is}
use Rattle.td_incremental.proofs.safety.within.Goals as goal

pub returns-then-unread : goal.returns-then-unread
returns-then-unread c = λ is. within_is c.args.catalogue.now c.args.relvar c.args.operator c.args.a.now c.args.b.now (sym c.is_at_most.ensures ∙ c.if-is_at_most.true) (c.in_ok-unread.ensures c.if-unread.true) (c.widens-all_there.ensures is)

pub returns-then-unread-2 : goal.returns-then-unread-2
returns-then-unread-2 c = λ is. around_is c.args.catalogue.now c.args.relvar c.args.operator c.args.a.now c.args.b.now (sym c.is_at_least.ensures ∙ c.if-is_at_least.true) (c.widens-all_there-then-is_at_least.ensures is) (c.in_ok-unread-2.ensures c.if-unread-2.true)
