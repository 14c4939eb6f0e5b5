use Rattle.std.proofs.Common.{◌≡◌, ◌-◌, ◌≤◌, length, take}
use Rattle.std.specs.Io.KnownBytes.{Keeps, Consumes}
use Rattle.td_io.proofs.pieces.fill.Given as goal

abbrev pub invariant-loop-at : goal.invariant-loop-at
invariant-loop-at g l = record {
  within : l.at ≤ length l.buf;
  bytes : Consumes (g.S.Source.left l.initial.source) (g.S.Source.left l.source) (take l.at l.buf);
  beside : Keeps (g.S.Source.beside l.initial.source) (g.S.Source.beside l.source);
  count : g.S.Source.failures l.source ≡ g.S.Source.failures l.initial.source;
}

abbrev pub decreases-loop-at : goal.decreases-loop-at
decreases-loop-at g l = length l.initial.buf - l.at
