use Rattle.td_eval.proofs.ByKey.{those_found}
use Rattle.td_eval.proofs.by_key.found_in.Goals as goal

pub returns-in_ok-found : goal.returns-in_ok-found
returns-in_ok-found c =
    let x = c.args.index.now in
    those_found x.key c.args.relation.now x c.args.values.now c.requires c.in_ok-found.field-0 c.rows_fit.ensures.fit (c.has_names_of.ensures.0 c.if-has_names_of.true) c.in_ok-found.ensures
