use Rattle.std.proofs.lemmas.Result.{IfOk-weaker}
use Rattle.td_accesses.proofs.Growing.{told_among}
use Rattle.td_accesses.proofs.accesses.add_by_tuples.Goals as goal

pub returns-clause-told : goal.returns-clause-told
returns-clause-told c =
    let suited = c.suits.ensures c.if-not-suits.false in
    IfOk-weaker c.add_into.result _ _ (λ b told is. told_among c.args.catalogue.now c.args.reads.now c.args.writes.now c.args.relvar c.args.relation.now c.add_into.new.all.items suited (told is)) c.add_into.ensures.told
