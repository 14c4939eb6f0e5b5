use Rattle.std.proofs.Common.{◌≡◌, ℕ, List, map, take}
use Rattle.td_values.specs.Data.{Ty}
use Rattle.td_incremental.proofs.references.names_in.Given as goal

abbrev pub invariant-loop-field : goal.invariant-loop-field
invariant-loop-field l = l.names.items ≡ map (λ (f : List ℕ × Ty). f.0) (take l.field-index l.fields)
