use Rattle.std.proofs.Common.{ℕ, ◌<◌, get_or}
use Rattle.td_tuples.specs.declared.items.Item.{Item}
use Rattle.td_typed_trees.specs.declared.tree.Typed.{Typed}
use Rattle.td_incremental.specs.Growth.{IsUnread}
use Rattle.td_incremental.proofs.watching.terms_unread.Given as goal

abbrev pub invariant-loop-item : goal.invariant-loop-item
invariant-loop-item l = (k : ℕ) (d : Item Typed) → k < l.item-index → IsUnread l.catalogue l.relvar (get_or l.items k d).term
