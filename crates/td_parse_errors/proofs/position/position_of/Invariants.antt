use Rattle.std.proofs.Common.{◌≡◌, ◌≤◌, ◌+◌, take}
use Rattle.td_parse_errors.specs.Positions.{position}
use Rattle.td_parse_errors.proofs.position.position_of.Given as goal

abbrev pub invariant-loop-b : goal.invariant-loop-b
invariant-loop-b l = record {
  so_far : l.position ≡ position (take l.b-index l.b-items);
  line : l.position.line ≤ l.b-index + 1;
  column : l.position.column ≤ l.b-index + 1;
}
