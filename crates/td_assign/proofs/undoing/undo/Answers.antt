use Rattle.std.proofs.Common.{◌≡◌, ℕ, ◌+◌, drop, sym, subst, arith}
use Rattle.td_relations.specs.Deltas.{DeltaData, inverse_of}
use Rattle.td_relvars.specs.Changed.{inverses, redone}
use Rattle.td_assign.specs.Redoing.{IsBetween}
use Rattle.td_assign.proofs.Listed.{inverses_once}
use Rattle.td_assign.proofs.Remaking.{anyway, between, can_next, comes_back, none_made, one_made}
use Rattle.td_assign.proofs.undoing.undo.Goals as goal

pub loop-relvar-init : goal.loop-relvar-init
loop-relvar-init c =
    let ds = c.args.delta.now in
    none_made c.args.database.now (inverses ds) (inverses_once ds c.requires.once) c.requires.fits

pub change_back-requires : goal.change_back-requires
change_back-requires c =
    let old = c.args.database.now in
    let ds = c.args.delta.now in
    let l = c.loop-relvar in
    let i = l.relvar-index in
    let x : ℕ × DeltaData = c.loop-relvar-item.result in
    let m = comes_back old l.database (inverses ds) ds i x (omega arith) c.loop-relvar-item.is l.invariant in
    can_next old (inverses ds) (inverses (drop (i + 1) ds)) (x.0, inverse_of x.1) l.database m

pub returns-in_err-change_back-clause-err : goal.returns-in_err-change_back-clause-err
returns-in_err-change_back-clause-err c =
    let old = c.args.database.now in
    let all = inverses c.args.delta.now in
    let l = c.loop-relvar in
    let left = inverses (drop l.relvar-index c.args.delta.now) in
    let kept : c.change_back.new.self ≡ l.database = c.in_err-change_back.ensures.err in
    let is = between old all left l.database l.invariant in
    anyway c.from_residual.result (subst (IsBetween old (redone all old.stored)) (sym kept) is)

pub loop-relvar-preserved : goal.loop-relvar-preserved
loop-relvar-preserved c =
    let old = c.args.database.now in
    let ds = c.args.delta.now in
    let l = c.loop-relvar in
    let i = l.relvar-index in
    let x : ℕ × DeltaData = c.loop-relvar-item.result in
    let m = comes_back old l.database (inverses ds) ds i x (omega arith) c.loop-relvar-item.is l.invariant in
    one_made old (inverses ds) (inverses (drop (i + 1) ds)) (x.0, inverse_of x.1) l.database m c.change_back.new.self c.in_ok-change_back.ensures.ok
