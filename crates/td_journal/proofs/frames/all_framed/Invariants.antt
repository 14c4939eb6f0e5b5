use Rattle.std.proofs.Common.{◌≡◌, true, take}
use Rattle.std.specs.List.{AllByRecursion, list_all}
use Rattle.td_stamps.specs.Entries.{in_range}
use Rattle.td_frames.specs.Spelling.{HasFrame}
use Rattle.td_frames.specs.declared.version.Version.TheVariants.{Second}
use Rattle.td_journal.proofs.frames.all_framed.Given as goal

abbrev pub invariant-loop-entry : goal.invariant-loop-entry
invariant-loop-entry l = record {
  ranges : list_all in_range (take l.entry-index l.entries) ≡ true;
  has : AllByRecursion (HasFrame Second) (take l.entry-index l.entries);
}
