use Rattle.td_bases.specs.ForProofs.Keyed.{IsIndexOf, with_more}
use Rattle.td_bases.proofs.Keyed.{Turning}
use Rattle.td_bases.proofs.by_keys.gain_each.Given as goal

abbrev pub invariant-loop-at : goal.invariant-loop-at
invariant-loop-at l = Turning (IsIndexOf l.relation) (IsIndexOf (with_more l.relation l.inserted)) l.initial.indexes.items l.at l.indexes.items
