use Rattle.std.proofs.Common.{sym, ◌∙◌}
use Rattle.td_incremental.proofs.Naming.{says_at_least, says_at_most}
use Rattle.td_incremental.proofs.references.sides.Goals as goal

pub returns-then-is_at_most : goal.returns-then-is_at_most
returns-then-is_at_most c =
    says_at_most c.args.tree.now c.in-Binary.operator c.in-Binary.a c.in-Binary.b c.get-then-is_at_most.result.now c.get-then-is_at_most-2.result.now
    c.in-Binary.is (sym c.is_at_most.ensures ∙ c.if-is_at_most.true) c.get-then-is_at_most.ensures c.get-then-is_at_most-2.ensures

pub returns-then-is_at_least : goal.returns-then-is_at_least
returns-then-is_at_least c =
    says_at_least c.args.tree.now c.in-Binary.operator c.in-Binary.a c.in-Binary.b c.get-then-is_at_least-2.result.now c.get-then-is_at_least.result.now
    c.in-Binary.is (sym c.is_at_least.ensures ∙ c.if-is_at_least.true) c.get-then-is_at_least-2.ensures c.get-then-is_at_least.ensures
