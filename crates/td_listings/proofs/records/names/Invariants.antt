use Rattle.std.proofs.Common.{◌≡◌, map, take}
use Rattle.td_listings.proofs.records.names.Given as goal

abbrev pub invariant-loop-field : goal.invariant-loop-field
invariant-loop-field l = map (λ f. f.now) l.names.items ≡ map (λ a. a.0) (take l.field-index l.field-items)
