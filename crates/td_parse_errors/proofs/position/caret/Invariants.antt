use Rattle.std.proofs.Common.{◌≡◌, map, string_bytes}
use Rattle.td_parse_errors.specs.Positions.{under}
use Rattle.td_parse_errors.proofs.position.caret.Given as goal

abbrev pub invariant-loop-c : goal.invariant-loop-c
invariant-loop-c l = string_bytes l.out ≡ map under l.yielded
