use Rattle.std.proofs.Common.{◌≡◌, take}
use Rattle.std.specs.List.{AllByRecursion, flat_map}
use Rattle.std.specs.Io.KnownBytes.{Keeps, Appends}
use Rattle.td_stamps.specs.Vectors.{after_vector}
use Rattle.td_frames.specs.Spelling.{HasFrame}
use Rattle.td_frames.specs.declared.version.Version.TheVariants.{Second}
use Rattle.td_meeting.proofs.InTurn.{frames_of}
use Rattle.td_meeting.proofs.sending.put_entries.Given as goal

abbrev pub invariant-loop-entry : goal.invariant-loop-entry
invariant-loop-entry g l = record {
  bytes : Appends (g.K.Sink.held l.initial.sink) (g.K.Sink.held l.sink) (flat_map (frames_of l.vector) (take l.entry-index l.entries));
  has : AllByRecursion (HasFrame Second) (after_vector l.vector (take l.entry-index l.entries));
  aside : Keeps (g.K.Sink.aside l.initial.sink) (g.K.Sink.aside l.sink);
  count : g.K.Sink.faults l.sink ≡ g.K.Sink.faults l.initial.sink;
}
