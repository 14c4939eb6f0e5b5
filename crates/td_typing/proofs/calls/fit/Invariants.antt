use Rattle.std.proofs.Common.{◌≡◌, ◌≤◌, ◌-◌, length, drop}
use Rattle.td_typing.specs.ForProofs.Infer.{fit}
use Rattle.td_typing.proofs.calls.fit.Given as goal

abbrev pub invariant-loop-at : goal.invariant-loop-at
invariant-loop-at l = record {
  in_kinds : l.at ≤ length l.kinds;
  in_components : l.at ≤ length l.components;
  rest : fit l.kinds l.components ≡ fit (drop l.at l.kinds) (drop l.at l.components);
}

abbrev pub decreases-loop-at : goal.decreases-loop-at
decreases-loop-at l = length l.kinds - l.at
