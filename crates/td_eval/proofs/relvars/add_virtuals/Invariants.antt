use Rattle.std.proofs.Common.{◌≡◌, drop}
use Rattle.td_meaning.specs.Selections.{selection}
use Rattle.td_meaning.specs.Seen.{virtuals_known}
use Rattle.td_eval.proofs.relvars.add_virtuals.Given as goal

abbrev pub invariant-loop-under : goal.invariant-loop-under
invariant-loop-under l = virtuals_known (selection l.selectors) l.virtuals l.initial.known.items ≡ virtuals_known (selection l.selectors) (drop l.under-index l.virtuals) l.known.items
