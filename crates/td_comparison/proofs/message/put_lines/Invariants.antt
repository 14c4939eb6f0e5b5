use Rattle.std.proofs.Common.{◌≡◌, take}
use Rattle.std.specs.List.{flat_map}
use Rattle.std.specs.Io.KnownBytes.{Keeps, Appends}
use Rattle.td_comparison.specs.Messages.{line_frame}
use Rattle.td_comparison.proofs.message.put_lines.Given as goal

abbrev pub invariant-loop-digest : goal.invariant-loop-digest
invariant-loop-digest g l = record {
  bytes : Appends (g.K.Sink.held l.initial.sink) (g.K.Sink.held l.sink) (flat_map line_frame (take l.digest-index l.digests));
  aside : Keeps (g.K.Sink.aside l.initial.sink) (g.K.Sink.aside l.sink);
  count : g.K.Sink.faults l.sink ≡ g.K.Sink.faults l.initial.sink;
}
