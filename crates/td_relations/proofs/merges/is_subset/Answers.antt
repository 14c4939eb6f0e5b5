use Rattle.std.proofs.Common.{◌∙◌}
use Rattle.std.specs.FinSet as set
use Rattle.std.specs.List.{list_all}
use Rattle.td_relations.specs.Sets.{body}
use Rattle.td_relations.proofs.Merging.{subset_tested}
use Rattle.td_relations.proofs.merges.is_subset.Goals as goal

pub returns : goal.returns
returns c = subset_tested c.args.a.now c.args.b.now c.has_all.result (c.has_all.ensures ∙ (λ i. list_all (set.contains (body c.args.b.now)) (c.tuples.ensures.all i)))
