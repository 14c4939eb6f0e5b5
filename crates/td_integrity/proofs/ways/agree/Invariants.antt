use Rattle.std.proofs.Common.{◌≡◌, take}
use Rattle.std.specs.List.{All}
use Rattle.td_values.specs.Attributes.{attribute_of}
use Rattle.td_integrity.proofs.ways.agree.Given as goal

abbrev pub invariant-loop-name : goal.invariant-loop-name
invariant-loop-name l = All (λ n. attribute_of n l.a ≡ attribute_of n l.b) (take l.name-index l.names)
