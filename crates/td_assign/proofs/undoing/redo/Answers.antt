use Rattle.std.proofs.Common.{◌≡◌, ℕ, ◌+◌, drop, sym, subst, arith}
use Rattle.td_relations.specs.Deltas.{DeltaData}
use Rattle.td_relvars.specs.Changed.{redone}
use Rattle.td_assign.specs.Redoing.{IsBetween}
use Rattle.td_assign.proofs.Remaking.{anyway, between, can_next, comes, one_made}
use Rattle.td_assign.proofs.undoing.redo.Goals as goal

pub change-requires : goal.change-requires
change-requires c =
    let old = c.args.database.now in
    let ds = c.args.delta.now in
    let l = c.loop-relvar in
    let i = l.relvar-index in
    let x : ℕ × DeltaData = c.loop-relvar-item.result in
    let m = comes old l.database ds ds i x (omega arith) c.loop-relvar-item.is l.invariant in
    can_next old ds (drop (i + 1) ds) x l.database m

pub returns-in_err-change-clause-err : goal.returns-in_err-change-clause-err
returns-in_err-change-clause-err c =
    let old = c.args.database.now in
    let all = c.args.delta.now in
    let l = c.loop-relvar in
    let left = drop l.relvar-index c.args.delta.now in
    let kept : c.change.new.self ≡ l.database = c.in_err-change.ensures.err in
    let is = between old all left l.database l.invariant in
    anyway c.from_residual.result (subst (IsBetween old (redone all old.stored)) (sym kept) is)

pub loop-relvar-preserved : goal.loop-relvar-preserved
loop-relvar-preserved c =
    let old = c.args.database.now in
    let ds = c.args.delta.now in
    let l = c.loop-relvar in
    let i = l.relvar-index in
    let x : ℕ × DeltaData = c.loop-relvar-item.result in
    let m = comes old l.database ds ds i x (omega arith) c.loop-relvar-item.is l.invariant in
    one_made old ds (drop (i + 1) ds) x l.database m c.change.new.self c.in_ok-change.ensures.ok
