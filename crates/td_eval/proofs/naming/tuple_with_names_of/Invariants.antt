use Rattle.std.proofs.Common.{◌≡◌, take}
use Rattle.td_eval.proofs.naming.tuple_with_names_of.Given as goal

abbrev pub invariant-loop-at : goal.invariant-loop-at
invariant-loop-at l = l.shared.items ≡ take l.at l.attributes
