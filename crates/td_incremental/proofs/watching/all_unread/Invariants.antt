use Rattle.std.proofs.Common.{ℕ, ◌<◌, get_or}
use Rattle.td_typed_trees.specs.declared.tree.Typed.TheVariants as tree
use Rattle.td_incremental.specs.Growth.{IsUnread}
use Rattle.td_incremental.proofs.watching.all_unread.Given as goal

abbrev pub invariant-loop-place : goal.invariant-loop-place
invariant-loop-place l = (k : ℕ) (d : ℕ) → k < l.place-index → IsUnread l.catalogue l.relvar (tree.Relvar (get_or l.places k d))
