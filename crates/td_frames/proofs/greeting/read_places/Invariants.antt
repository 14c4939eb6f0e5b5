use Rattle.std.proofs.Common.{◌≡◌, ◌-◌, ℕ, List, ◌++◌}
use Rattle.std.specs.FinMap as by_site
use Rattle.std.specs.Io.KnownBytes.{Keeps, Consumes}
use Rattle.td_frames.specs.ForProofs.{AreAtMost}
use Rattle.td_frames.specs.Reading.{sites_at}
use Rattle.td_frames.proofs.greeting.read_places.Given as goal

abbrev pub invariant-loop : goal.invariant-loop
invariant-loop g l = record {
  told : (done : List ℕ) × Consumes (g.S.Source.left l.initial.source) (g.S.Source.left l.source) done
      × ((more : List ℕ) → sites_at l.count 0 by_site.empty (done ++ more) ≡ sites_at (l.count - l.counter) l.last l.vector more);
  most : AreAtMost l.last l.vector;
  beside : Keeps (g.S.Source.beside l.initial.source) (g.S.Source.beside l.source);
  count : g.S.Source.failures l.source ≡ g.S.Source.failures l.initial.source;
}
