use Rattle.std.proofs.Common.{◌+◌, drop, subst, sym, arith}
use Rattle.std.proofs.lemmas.List.{drop_all}
use Rattle.td_headings.proofs.StatementLemmas.{Walked, left_at, one_more, ended, stopped, same_error}
use Rattle.td_headings.proofs.statement.type_assignments.Goals as goal

pub returns-in-Err-clause-refused : goal.returns-in-Err-clause-refused
returns-in-Err-clause-refused c = λ e.
    let s = c.args.catalogue.now in
    let all = c.args.actions.now in
    let i = c.loop-action.action-index in
    let a = c.action-item.result in
    let found = c.loop-action.found in
    stopped s all (drop (i + 1) all) found a (subst (λ rest. Walked s all rest found) (left_at all i a (omega arith) c.action-item.is) c.loop-action.invariant) (c.in-Err.ensures.refused (same_error c.in-Err.error e))

pub loop-action-preserved : goal.loop-action-preserved
loop-action-preserved c =
    let s = c.args.catalogue.now in
    let all = c.args.actions.now in
    let i = c.loop-action.action-index in
    let a = c.action-item.result in
    let found = c.loop-action.found in
    subst (Walked s all (drop (i + 1) all)) (sym c.in_ok-push-in-Ok.ensures.ok)
    (one_more s all (drop (i + 1) all) found a c.in-Ok.assignment (subst (λ rest. Walked s all rest found) (left_at all i a (omega arith) c.action-item.is) c.loop-action.invariant) c.in-Ok.ensures.typed)

pub returns-clause-typed : goal.returns-clause-typed
returns-clause-typed c =
    let s = c.args.catalogue.now in
    let all = c.args.actions.now in
    let found = c.loop-action.found in
    ended s all found (subst (λ rest. Walked s all rest found) (drop_all c.loop-action.action-index all (omega arith)) c.loop-action.invariant)
