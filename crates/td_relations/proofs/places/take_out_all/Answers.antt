use Rattle.std.proofs.Common.{◌∙◌, refl, arith}
use Rattle.td_relations.specs.Sets.{tuple_set}
use Rattle.td_relations.proofs.Edits.{difference_nothing, less_one}
use Rattle.td_relations.proofs.places.take_out_all.Goals as goal

pub loop-tuple-init : goal.loop-tuple-init
loop-tuple-init c = record { ascending = c.requires; members = difference_nothing (tuple_set c.args.tuples.now.items); len = omega arith; capacity = refl }

pub loop-tuple-preserved : goal.loop-tuple-preserved
loop-tuple-preserved c = record {
  ascending = c.take_out.ensures.ascending;
  members =
      c.take_out.ensures.members
      ∙ less_one (tuple_set c.args.tuples.now.items) (tuple_set c.loop-tuple.tuples.items) c.args.deleted.now c.loop-tuple.tuple-index c.tuple-item.result c.loop-tuple-test.true c.tuple-item.is c.loop-tuple.invariant.members;
  len = omega arith;
  capacity = c.take_out.ensures.capacity ∙ c.loop-tuple.invariant.capacity;
}
