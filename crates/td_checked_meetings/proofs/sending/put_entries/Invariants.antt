use Rattle.std.proofs.Common.{◌≡◌, take}
use Rattle.std.specs.List.{AllByRecursion, flat_map}
use Rattle.std.specs.Io.KnownBytes.{Keeps, Appends}
use Rattle.td_frames.specs.Spelling.{HasFrame}
use Rattle.td_frames.specs.declared.version.Version.TheVariants.{Second}
use Rattle.td_checked_meetings.specs.Scopes.{sent}
use Rattle.td_checked_meetings.proofs.Kept.{frames_of}
use Rattle.td_checked_meetings.proofs.sending.put_entries.Given as goal

abbrev pub invariant-loop-entry : goal.invariant-loop-entry
invariant-loop-entry g l = record {
  bytes : Appends (g.K.Sink.held l.initial.sink) (g.K.Sink.held l.sink) (flat_map (frames_of l.scope.left_out.items l.scope.vector l.vector) (take l.entry-index l.entries));
  has : AllByRecursion (HasFrame Second) (sent l.scope.left_out.items l.scope.vector l.vector (take l.entry-index l.entries));
  aside : Keeps (g.K.Sink.aside l.initial.sink) (g.K.Sink.aside l.sink);
  count : g.K.Sink.faults l.sink ≡ g.K.Sink.faults l.initial.sink;
}
