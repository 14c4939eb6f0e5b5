use Rattle.std.proofs.Common.{◌≡◌, take, true}
use Rattle.td_eval.specs.ForProofs.ByKey.{all_values}
use Rattle.td_eval.proofs.by_key.has_all.Given as goal

abbrev pub invariant-loop-given : goal.invariant-loop-given
invariant-loop-given l = all_values (take l.given-index l.values) l.tuple ≡ true
