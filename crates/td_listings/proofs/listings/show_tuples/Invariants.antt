use Rattle.std.proofs.Common.{◌≡◌, ◌++◌, take, string_bytes}
use Rattle.std.specs.List.{flat_map}
use Rattle.td_listings.specs.Texts as spec
use Rattle.td_listings.proofs.listings.show_tuples.Given as goal

abbrev pub invariant-loop-tuple : goal.invariant-loop-tuple
invariant-loop-tuple l = string_bytes l.out ≡ string_bytes l.initial.out ++ flat_map spec.tuple_line (take l.tuple-index l.tuples)
