use Rattle.std.proofs.Common.{refl, ◌∙◌}
use Rattle.td_relations.specs.Sets.{body}
use Rattle.td_relations.proofs.Edits.{difference_nothing, less_one}
use Rattle.td_bases.proofs.base.take_out.Goals as goal

pub loop-tuple-init : goal.loop-tuple-init
loop-tuple-init c = record { heading = refl; members = difference_nothing (body c.args.relation.now); ascending = c.rows_fit.ensures.ascending }

pub loop-tuple-preserved : goal.loop-tuple-preserved
loop-tuple-preserved c = record {
  heading = c.remove.ensures.gone.heading ∙ c.loop-tuple.invariant.heading;
  members =
      c.remove.ensures.gone.members
      ∙ less_one (body c.args.relation.now) (body c.loop-tuple.relation) c.args.tuples.now c.loop-tuple.tuple-index c.tuple-item.result c.loop-tuple-test.true c.tuple-item.is c.loop-tuple.invariant.members;
  ascending = c.remove.ensures.gone.ascending;
}
