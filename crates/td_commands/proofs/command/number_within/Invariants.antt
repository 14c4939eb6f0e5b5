use Rattle.std.proofs.Common.{◌≡◌, ◌≤◌, true, min, take}
use Rattle.std.specs.List.{list_all}
use Rattle.std.specs.Char.{is_ascii_digit}
use Rattle.td_commands.specs.Lines.{decimal_value}
use Rattle.td_commands.proofs.command.number_within.Given as goal

abbrev pub invariant-loop-b : goal.invariant-loop-b
invariant-loop-b l = record {
  digits : list_all is_ascii_digit (take l.b-index l.digits) ≡ true;
  so_far : l.value ≡ min (decimal_value (take l.b-index l.digits)) l.most;
  small : l.value ≤ l.most;
}
