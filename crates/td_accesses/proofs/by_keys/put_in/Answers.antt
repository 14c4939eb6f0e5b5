use Rattle.std.proofs.Common.{List, ◌∙◌, subst}
use Rattle.td_values.specs.Data.{Attrs}
use Rattle.td_algebra.specs.KeyIndexes.{HasMore}
use Rattle.td_accesses.proofs.Growing.{gained_there, index_gained}
use Rattle.td_accesses.proofs.by_keys.put_in.Goals as goal

pub returns-clause-kept : goal.returns-clause-kept
returns-clause-kept c =
    let x = c.args.index.now in
    let y = c.insert_all.new.self in
    index_gained c.args.relation.now x y (subst (λ (ts : List Attrs). HasMore ts x y) (c.in_ok-copy_tuples.ensures ∙ c.tuples.ensures.all) c.in_ok-insert_all.ensures.ok)

pub returns-clause-there : goal.returns-clause-there
returns-clause-there c = λ _.
    let x = c.args.index.now in
    let y = c.insert_all.new.self in
    gained_there c.args.relation.now x y (subst (λ (ts : List Attrs). HasMore ts x y) (c.in_ok-copy_tuples.ensures ∙ c.tuples.ensures.all) c.in_ok-insert_all.ensures.ok)
