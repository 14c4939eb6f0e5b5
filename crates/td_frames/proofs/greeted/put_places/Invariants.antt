use Rattle.std.proofs.Common.{◌≡◌, take}
use Rattle.std.specs.List.{flat_map}
use Rattle.std.specs.Io.KnownBytes.{Keeps, Appends}
use Rattle.td_frames.specs.Spelling.{place}
use Rattle.td_frames.proofs.greeted.put_places.Given as goal

abbrev pub invariant-loop-place : goal.invariant-loop-place
invariant-loop-place g l = record {
  bytes : Appends (g.K.Sink.held l.initial.sink) (g.K.Sink.held l.sink) (flat_map place (take l.place-index l.places));
  aside : Keeps (g.K.Sink.aside l.initial.sink) (g.K.Sink.aside l.sink);
  count : g.K.Sink.faults l.sink ≡ g.K.Sink.faults l.initial.sink;
}
