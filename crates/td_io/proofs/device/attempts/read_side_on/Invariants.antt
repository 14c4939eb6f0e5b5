use Rattle.std.specs.Io.KnownBytes.{Keeps}
use Rattle.td_io.proofs.device.attempts.read_side_on.Given as goal

abbrev pub invariant-loop : goal.invariant-loop
invariant-loop g l = Keeps (g.L.Read.remaining l.initial.inner) (g.L.Read.remaining l.inner) × Keeps (g.L.Write.contents l.initial.inner) (g.L.Write.contents l.inner)
