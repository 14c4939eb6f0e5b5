use Rattle.std.proofs.Common.{◌≤◌, take}
use Rattle.td_meaning.specs.ForProofs.Levels.{summaries_levels}
use Rattle.td_meaning.specs.ForProofs.ReadyTerms.{AreReady, IsReadySummary, deepest_summary}
use Rattle.td_meaning.specs.Seen.{mean_in, names_bound}
use Rattle.td_meaning.proofs.ready.ready_summaries.Given as goal

abbrev pub invariant-loop-item : goal.invariant-loop-item
invariant-loop-item g l =
    AreReady (IsReadySummary (mean_in l.evaluator.env.now) (names_bound l.scope) l.heading) (take l.item-index l.items) l.ready.items
    × (deepest_summary l.ready.items ≤ summaries_levels l.items)
