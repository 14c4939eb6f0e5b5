use Rattle.std.proofs.Common.{◌≡◌, ℕ, ◌*◌, ◌++◌, length}
use Rattle.td_comparison.specs.Messages.{lines_in}
use Rattle.td_comparison.proofs.reading.read_lines.Given as goal

abbrev pub invariant-loop-line : goal.invariant-loop-line
invariant-loop-line l = record {
  left : (n : ℕ) × (length l.line-iterator.rest.now ≡ 22 * n) × (l.digests.items ++ lines_in n l.line-iterator.rest.now ≡ lines_in l.count l.bytes);
  size : l.line-iterator.size ≡ 22;
}
