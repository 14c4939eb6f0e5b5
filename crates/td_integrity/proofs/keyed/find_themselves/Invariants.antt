use Rattle.std.proofs.Common.{◌≡◌, drop}
use Rattle.std.specs.List.{list_all}
use Rattle.td_integrity.specs.ForProofs.Found.{finds_itself}
use Rattle.td_integrity.proofs.keyed.find_themselves.Given as goal

abbrev pub invariant-loop-tuple : goal.invariant-loop-tuple
invariant-loop-tuple l = list_all (finds_itself l.index) (drop l.tuple-index l.tuple-items) ≡ list_all (finds_itself l.index) l.tuple-items
