use Rattle.std.proofs.Common.{take}
use Rattle.std.specs.List.{All}
use Rattle.td_values.specs.Whole.{IsWhole}
use Rattle.td_values.proofs.Items.new.Given as goal

abbrev pub invariant-loop-v : goal.invariant-loop-v
invariant-loop-v l = All IsWhole (take l.v-index l.v-items)
