use Rattle.std.proofs.Common.{◌≡◌, map, string_bytes, take}
use Rattle.td_listings.proofs.records.fields.Given as goal

abbrev pub invariant-loop-cell : goal.invariant-loop-cell
invariant-loop-cell l = map (λ f. f.now) l.fields.items ≡ map string_bytes (take l.cell-index l.cells)
