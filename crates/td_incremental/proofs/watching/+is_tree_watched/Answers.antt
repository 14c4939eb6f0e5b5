use Rattle.std.proofs.Common.{sym, ◌∙◌}
use Rattle.td_incremental.proofs.Deciding.{watched_any, watched_both, watched_comparison, watched_unary}
use Rattle.td_incremental.proofs.watching.+is_tree_watched.Goals as goal

pub returns-in_ok-made-in-Unary : goal.returns-in_ok-made-in-Unary
returns-in_ok-made-in-Unary t c =
    watched_unary c.args.catalogue.now c.args.relvar c.args.tree.now c.in-Unary.operator c.in-Unary.a c.get.result.now c.in_ok-made-in-Unary.made c.of_unary.result
    c.in-Unary.is c.get.ensures c.in_ok-made-in-Unary.ensures c.of_unary.ensures

pub returns-then-left : goal.returns-then-left
returns-then-left t c = λ is.
    watched_both c.args.catalogue.now c.args.relvar c.args.tree.now c.in-Binary.operator c.in-Binary.a c.in-Binary.b c.get-then-is_and.result.now c.get-then-is_and-2.result.now
    c.in-Binary.is (sym c.is_and.ensures ∙ c.if-is_and.true) c.get-then-is_and.ensures c.get-then-is_and-2.ensures
    (c.in_ok-left-in-Binary.ensures c.if-left.true) (c.in_ok-right-in-Binary.ensures is)

pub returns-in_ok-right-in-Binary-2 : goal.returns-in_ok-right-in-Binary-2
returns-in_ok-right-in-Binary-2 t c =
    watched_comparison c.args.catalogue.now c.args.relvar c.args.tree.now c.in-Binary.operator c.in-Binary.a c.in-Binary.b c.get-else-is_and.result.now c.get-else-is_and-2.result.now c.in_ok-left-in-Binary-2.left c.in_ok-right-in-Binary-2.right c.of_comparison.result
    c.in-Binary.is c.get-else-is_and.ensures c.get-else-is_and-2.ensures c.in_ok-left-in-Binary-2.ensures c.in_ok-right-in-Binary-2.ensures c.of_comparison.ensures

pub returns-in_default : goal.returns-in_default
returns-in_default t c = watched_any c.args.catalogue.now c.args.relvar c.args.tree.now c.is_unread.result c.is_unread.ensures
