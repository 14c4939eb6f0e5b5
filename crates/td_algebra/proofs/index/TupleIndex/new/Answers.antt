use Rattle.std.proofs.Common.{subst, sym}
use Rattle.std.specs.List.{All}
use Rattle.td_tuples.specs.Parts.{Fits}
use Rattle.td_algebra.proofs.index.TupleIndex.new.Goals as goal

pub sort_by_places-requires : goal.sort_by_places-requires
sort_by_places-requires c = (c.args.relation.now.heading, subst (All (Fits c.args.relation.now.heading)) (sym c.tuples.ensures.all) c.rows_fit-2.ensures.fit)
