use Rattle.std.proofs.Common.{◌≡◌, ◌+◌, ℕ, List, true, length, option_map}
use Rattle.std.specs.Io.KnownBytes.{Keeps, Consumes}
use Rattle.td_io.specs.ForProofs.Held.{begun}
use Rattle.td_io.specs.Lines.{is_one_line}
use Rattle.td_io.proofs.lines.read_line.Given as goal

abbrev pub invariant-loop-reads : goal.invariant-loop-reads
invariant-loop-reads g l = (raw : List ℕ) × Consumes (g.S.Source.left l.initial.source) (g.S.Source.left l.source) raw
    × (is_one_line raw ≡ true)
    × (option_map (λ v. v.items) l.line ≡ begun l.most raw)
    × (l.reads + length raw ≡ l.initial.reads)
    × Keeps (g.S.Source.beside l.initial.source) (g.S.Source.beside l.source)
    × (g.S.Source.failures l.source ≡ g.S.Source.failures l.initial.source)

abbrev pub decreases-loop-reads : goal.decreases-loop-reads
decreases-loop-reads g l = l.reads
