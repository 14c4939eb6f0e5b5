use Rattle.td_relations.proofs.Searches.{searched}
use Rattle.td_relations.proofs.places.place.Goals as goal

pub returns-clause-found : goal.returns-clause-found
returns-clause-found c = (searched _ c.args.tuple.now c.requires _ c.binary_search.ensures.bound c.binary_search.ensures.position).found

pub returns-clause-absent : goal.returns-clause-absent
returns-clause-absent c = (searched _ c.args.tuple.now c.requires _ c.binary_search.ensures.bound c.binary_search.ensures.position).absent
