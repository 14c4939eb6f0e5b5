use Rattle.std.proofs.Common.{◌∙◌, sym, arith}
use Rattle.td_relations.proofs.Searches.{stands_at}
use Rattle.td_relations.proofs.places.is_at.Goals as goal

pub returns-then-at-tuples : goal.returns-then-at-tuples
returns-then-at-tuples c = λ same. stands_at c.args.tuples.now c.args.tuple.now c.index-tuples-at.result c.args.at (omega (arith, c.if-at-tuples.true)) c.index-tuples-at.is (sym c.eq.ensures ∙ same)
