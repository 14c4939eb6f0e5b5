use Rattle.std.proofs.Common.{◌≡◌, ◌≤◌, ◌+◌, ◌*◌, length, take}
use Rattle.td_frames.specs.Spelling.{entry_frames}
use Rattle.td_journal.proofs.reading.bytes_of.Given as goal

abbrev pub invariant-loop-entry : goal.invariant-loop-entry
invariant-loop-entry l = record {
  sum : l.bytes ≡ 11 + length l.script + length (entry_frames l.version (take l.entry-index l.entries));
  few : l.bytes ≤ 65547 + l.entry-index * 8210;
}
