use Rattle.std.proofs.Common.{ap, length}
use Rattle.td_insertions.proofs.written.count_terms.Goals as goal

pub returns-in-Relation : goal.returns-in-Relation
returns-in-Relation c = (_, c.in-Relation.terms, c.in-Relation.is, ap length c.as_slice.ensures)
