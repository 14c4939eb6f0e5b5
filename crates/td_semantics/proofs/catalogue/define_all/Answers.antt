use Rattle.std.proofs.Common.{◌+◌, drop, subst, arith}
use Rattle.std.proofs.lemmas.List.{drop_all}
use Rattle.td_headings.proofs.StatementLemmas.{same_error}
use Rattle.td_semantics.proofs.Defining.{Walked, left_at, one_more, ended, stopped}
use Rattle.td_semantics.proofs.catalogue.define_all.Goals as goal

pub returns-in-Err-clause-refused : goal.returns-in-Err-clause-refused
returns-in-Err-clause-refused c = λ e.
    let all = c.args.definitions.now in
    let i = c.loop-definition.definition-index in
    let x = c.definition-item.result in
    let k = c.loop-definition.catalogue in
    stopped all (drop (i + 1) all) x k (subst (λ rest. Walked all rest k) (left_at all i x (omega arith) c.definition-item.is) c.loop-definition.invariant) (c.in-Err.ensures.refused (same_error c.in-Err.error e))

pub loop-definition-preserved : goal.loop-definition-preserved
loop-definition-preserved c =
    let all = c.args.definitions.now in
    let i = c.loop-definition.definition-index in
    let x = c.definition-item.result in
    let k = c.loop-definition.catalogue in
    one_more all (drop (i + 1) all) x k c.define.new.self (subst (λ rest. Walked all rest k) (left_at all i x (omega arith) c.definition-item.is) c.loop-definition.invariant) c.in-Ok.ensures.defined

pub returns-clause-typed : goal.returns-clause-typed
returns-clause-typed c =
    let all = c.args.definitions.now in
    let k = c.loop-definition.catalogue in
    ended all k (subst (λ rest. Walked all rest k) (drop_all c.loop-definition.definition-index all (omega arith)) c.loop-definition.invariant)
