use Rattle.std.proofs.Common.{refl}
use Rattle.td_tuples.proofs.Steps.{added}
use Rattle.td_tuples.proofs.tuples.tuple_of.Goals as goal

pub loop-name-preserved : goal.loop-name-preserved
loop-name-preserved c = added c.loop-name.yielded (c.in-Some.name, c.in-Some.value) _ _ _ _ _ refl refl c.loop-name.invariant c.in_ok-insert.ensures.new c.in_ok-insert.ensures.ok
