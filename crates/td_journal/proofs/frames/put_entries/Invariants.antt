use Rattle.std.proofs.Common.{◌≡◌, take}
use Rattle.std.specs.List.{AllByRecursion, flat_map}
use Rattle.std.specs.Io.KnownBytes.{Keeps, Appends}
use Rattle.td_frames.specs.Spelling.{HasFrame, entry_frame}
use Rattle.td_frames.specs.declared.version.Version.TheVariants.{Second}
use Rattle.td_journal.proofs.frames.put_entries.Given as goal

abbrev pub invariant-loop-entry : goal.invariant-loop-entry
invariant-loop-entry g l = record {
  bytes : Appends (g.K.Sink.held l.initial.sink) (g.K.Sink.held l.sink) (flat_map (entry_frame Second) (take l.entry-index l.entries));
  has : AllByRecursion (HasFrame Second) (take l.entry-index l.entries);
  aside : Keeps (g.K.Sink.aside l.initial.sink) (g.K.Sink.aside l.sink);
  count : g.K.Sink.faults l.sink ≡ g.K.Sink.faults l.initial.sink;
}
