use Rattle.std.proofs.Common.{arith}
use Rattle.td_relations.specs.Sets.{Has}
use Rattle.td_bases.specs.ForProofs.Keyed.{IsBeyond, IsIndexOf, with_more}
use Rattle.td_bases.proofs.Keyed.{all_done, as_it_is, beyond_old, here_left, none_yet, on_err, one_further, stopped}
use Rattle.td_bases.proofs.by_keys.gain_each.Goals as goal

pub loop-at-init : goal.loop-at-init
loop-at-init c = none_yet (IsIndexOf c.args.relation.now) (IsIndexOf (with_more c.args.relation.now c.args.inserted.now)) c.args.indexes.now.items c.requires.of

pub gain-requires-clause-of : goal.gain-requires-clause-of
gain-requires-clause-of c =
    here_left (IsIndexOf c.args.relation.now) (IsIndexOf (with_more c.args.relation.now c.args.inserted.now)) c.args.indexes.now.items c.loop-at.at c.loop-at.indexes.items c.index_mut.result.now (omega (arith, c.loop-at.invariant.many)) c.loop-at.invariant
    c.index_mut.ensures.value

pub returns-in_err-gain-clause-err : goal.returns-in_err-gain-clause-err
returns-in_err-gain-clause-err c =
    let r = c.args.relation.now in
    let i = c.args.inserted.now in
    on_err c.from_residual.result (stopped (IsIndexOf r) (IsIndexOf (with_more r i)) c.args.indexes.now.items (IsBeyond r (Has i)) (λ x is. as_it_is r (Has i) x c.rows_fit.ensures.ascending is) (beyond_old r i) c.loop-at.at c.loop-at.indexes.items
    c.index_mut.result.now c.gain.new.index (omega (arith, c.loop-at.invariant.many)) c.loop-at.invariant c.index_mut.ensures.value c.in_err-gain.ensures.err)

pub loop-at-preserved : goal.loop-at-preserved
loop-at-preserved c =
    one_further (IsIndexOf c.args.relation.now) (IsIndexOf (with_more c.args.relation.now c.args.inserted.now)) c.args.indexes.now.items c.loop-at.at c.loop-at.indexes.items c.index_mut.result.now c.gain.new.index
    (omega (arith, c.loop-at.invariant.many)) c.loop-at.invariant c.index_mut.ensures.value c.in_ok-gain.ensures.ok c.in_ok-gain.ensures.key

pub returns-clause-ok : goal.returns-clause-ok
returns-clause-ok c =
    all_done (IsIndexOf c.args.relation.now) (IsIndexOf (with_more c.args.relation.now c.args.inserted.now)) c.args.indexes.now.items c.loop-at.at c.loop-at.indexes.items (omega (arith, c.loop-at.invariant.many)) c.loop-at.invariant

pub returns-clause-keys : goal.returns-clause-keys
returns-clause-keys c = c.loop-at.invariant.keys
