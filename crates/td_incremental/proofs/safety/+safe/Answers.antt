use Rattle.std.proofs.Common.{sym, ◌∙◌}
use Rattle.td_incremental.proofs.Judging.{safe_both}
use Rattle.td_incremental.proofs.safety.+safe.Goals as goal

pub returns-then-left : goal.returns-then-left
returns-then-left t c = λ is.
    safe_both c.args.catalogue.now c.args.relvar c.args.tree.now c.in-Binary.operator c.in-Binary.a c.in-Binary.b c.get-then-is_and.result.now c.get-then-is_and-2.result.now
    c.in-Binary.is (sym c.is_and.ensures ∙ c.if-is_and.true) c.get-then-is_and.ensures c.get-then-is_and-2.ensures
    (c.in_ok-left-in-Binary.ensures c.if-left.true) (c.in_ok-right-in-Binary.ensures is)
