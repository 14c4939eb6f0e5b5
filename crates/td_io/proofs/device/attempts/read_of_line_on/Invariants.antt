use Rattle.std.specs.Io.KnownBytes.{Keeps}
use Rattle.std.specs.Io.Buffered.{reader_remaining}
use Rattle.td_io.proofs.device.attempts.read_of_line_on.Given as goal

abbrev pub invariant-loop : goal.invariant-loop
invariant-loop g l = Keeps (reader_remaining g.R.Read.remaining l.initial.inner) (reader_remaining g.R.Read.remaining l.inner)
