use Rattle.std.proofs.Common.{sym, subst}
use Rattle.std.specs.List.{All}
use Rattle.td_tuples.specs.Parts.{Fits}
use Rattle.td_algebra.proofs.extension.extend.Goals as goal

pub relation_of_extended-requires : goal.relation_of_extended-requires
relation_of_extended-requires g c =
    let h = c.args.relation.now.heading in
    c.extend_tuples-tuples.ensures.typed h (subst (All (Fits h)) (sym c.tuples.ensures.all) c.rows_fit.ensures.fit)

pub returns : goal.returns
returns g c = λ m means. c.relation_of_extended.ensures m ((rw c.tuples.ensures.all at c.extend_tuples-tuples.ensures.means) m means)
