use Rattle.std.specs.Io.KnownBytes.{Keeps}
use Rattle.td_io.proofs.device.attempts.read_on.Given as goal

abbrev pub invariant-loop : goal.invariant-loop
invariant-loop g l = Keeps (g.R.Read.remaining l.initial.inner) (g.R.Read.remaining l.inner)
