use Rattle.std.proofs.Common.{take}
use Rattle.std.specs.FinSet as set
use Rattle.td_relations.specs.Sets.{IsRelation, body, tuple_set}
use Rattle.td_bases.proofs.base.take_out.Given as goal

abbrev pub invariant-loop-tuple : goal.invariant-loop-tuple
invariant-loop-tuple l = IsRelation l.initial.relation.heading (set.difference (body l.initial.relation) (tuple_set (take l.tuple-index l.tuples))) l.relation
