use Rattle.std.proofs.Common.{◌≡◌, drop}
use Rattle.std.specs.List.{All}
use Rattle.td_tuples.specs.Parts.{Fits}
use Rattle.td_operators.specs.ForProofs.Turns.{turn}
use Rattle.td_operators.specs.Operators.{in_turn, tuple_over}
use Rattle.td_operators.proofs.tuples.tuples_over.Given as goal

abbrev pub invariant-loop-value : goal.invariant-loop-value
invariant-loop-value g l = record {
  answers : in_turn (tuple_over l.heading) l.values ≡ turn (tuple_over l.heading) l.found.items (drop l.value-index l.values);
  fit : All (Fits l.heading) l.found.items;
}
