use Rattle.std.proofs.Common.{◌≡◌, ℕ, List}
use Rattle.std.specs.Io.KnownBytes.{Keeps, Consumes}
use Rattle.td_journal.proofs.Fields.{Agrees}
use Rattle.td_journal.proofs.reading.read_field.Given as goal

abbrev pub invariant-loop-byte : goal.invariant-loop-byte
invariant-loop-byte g l = record {
  told : (done : List ℕ) × Consumes (g.S.Source.left l.initial.source) (g.S.Source.left l.source) done × Agrees l.field l.error done l.byte-index l.same;
  beside : Keeps (g.S.Source.beside l.initial.source) (g.S.Source.beside l.source);
  count : g.S.Source.failures l.source ≡ g.S.Source.failures l.initial.source;
}
