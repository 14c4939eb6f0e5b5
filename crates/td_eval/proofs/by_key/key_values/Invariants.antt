use Rattle.std.proofs.Common.{take}
use Rattle.td_eval.proofs.ByKey.{AreGiven}
use Rattle.td_eval.proofs.by_key.key_values.Given as goal

abbrev pub invariant-loop-name : goal.invariant-loop-name
invariant-loop-name l = AreGiven (take l.name-index l.key) l.values l.given.items
