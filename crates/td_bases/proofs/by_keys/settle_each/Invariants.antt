use Rattle.td_relations.specs.Sets.{Has}
use Rattle.td_bases.specs.ForProofs.Keyed.{IsBeyond, IsIndexOf}
use Rattle.td_bases.proofs.Keyed.{Turning}
use Rattle.td_bases.proofs.by_keys.settle_each.Given as goal

abbrev pub invariant-loop-at : goal.invariant-loop-at
invariant-loop-at l = Turning (IsBeyond l.relation (Has l.gone)) (IsIndexOf l.relation) l.initial.indexes.items l.at l.indexes.items
