use Rattle.std.proofs.Common.{◌≡◌, ℕ, ◌-◌, ◌≤◌, List, ◌++◌}
use Rattle.td_frames.specs.Reading.{most_entries}
use Rattle.td_stream_bounds.specs.Extents.{scan_extent}
use Rattle.td_stream_bounds.proofs.stream.StreamScanner.advance.Given as goal

abbrev pub invariant-loop-self : goal.invariant-loop-self
invariant-loop-self l = record {
  extent : scan_extent l.self l.bytes ≡ scan_extent l.initial.self l.bytes;
  resumes : (more : List ℕ) → scan_extent l.self (l.bytes ++ more) ≡ scan_extent l.initial.self (l.bytes ++ more);
}

abbrev pub decreases-loop-self : goal.decreases-loop-self
decreases-loop-self l = most_entries - l.self.entries
