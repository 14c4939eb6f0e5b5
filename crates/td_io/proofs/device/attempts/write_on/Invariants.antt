use Rattle.std.specs.Io.KnownBytes.{Keeps}
use Rattle.td_io.proofs.device.attempts.write_on.Given as goal

abbrev pub invariant-loop : goal.invariant-loop
invariant-loop g l = Keeps (g.W.Write.contents l.initial.inner) (g.W.Write.contents l.inner)
