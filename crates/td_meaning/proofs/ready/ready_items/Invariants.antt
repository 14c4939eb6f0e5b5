use Rattle.std.proofs.Common.{◌≤◌, take}
use Rattle.td_meaning.specs.ForProofs.Levels.{item_levels}
use Rattle.td_meaning.specs.ForProofs.ReadyTerms.{AreReady, IsReady, deepest_item}
use Rattle.td_meaning.specs.Seen.{mean_in, names_bound}
use Rattle.td_meaning.proofs.ready.ready_items.Given as goal

abbrev pub invariant-loop-item : goal.invariant-loop-item
invariant-loop-item g l =
    AreReady (IsReady (mean_in l.evaluator.env.now) (names_bound l.scope) l.heading) (take l.item-index l.items) l.ready.items
    × (deepest_item l.ready.items ≤ item_levels l.items)
