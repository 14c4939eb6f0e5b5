use Rattle.std.proofs.Common.{◌≡◌, ◌-◌, ℕ, List, ◌++◌}
use Rattle.std.specs.Io.KnownBytes.{Keeps, Consumes}
use Rattle.td_frames.specs.Reading.{entries_at}
use Rattle.td_frames.proofs.Loops.{with_front}
use Rattle.td_frames.proofs.entries.read_entries.Given as goal

abbrev pub invariant-loop : goal.invariant-loop
invariant-loop g l = record {
  told : (done : List ℕ) × Consumes (g.S.Source.left l.initial.source) (g.S.Source.left l.source) done
      × ((more : List ℕ) → entries_at l.version l.most (done ++ more) ≡ with_front l.entries.items (entries_at l.version (l.most - l.counter) more));
  beside : Keeps (g.S.Source.beside l.initial.source) (g.S.Source.beside l.source);
  count : g.S.Source.failures l.source ≡ g.S.Source.failures l.initial.source;
}
