use Rattle.std.proofs.Common.{◌≡◌, drop}
use Rattle.td_meaning.specs.Selections.{components}
use Rattle.td_meaning.proofs.scope.component.Given as goal

abbrev pub invariant-loop-i : goal.invariant-loop-i
invariant-loop-i l = components l.names l.values l.name ≡ components (drop l.i l.names) (drop l.i l.values) l.name
