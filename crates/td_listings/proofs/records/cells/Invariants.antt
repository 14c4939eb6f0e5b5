use Rattle.std.proofs.Common.{◌≡◌, map, string_bytes, take}
use Rattle.td_listings.specs.Tables as spec
use Rattle.td_listings.proofs.records.cells.Given as goal

abbrev pub invariant-loop-attribute : goal.invariant-loop-attribute
invariant-loop-attribute l = map string_bytes l.cells.items ≡ map (λ a. spec.cell a.1) (take l.attribute-index l.attributes)
