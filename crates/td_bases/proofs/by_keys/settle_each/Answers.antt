use Rattle.std.proofs.Common.{arith}
use Rattle.td_relations.specs.Sets.{Has}
use Rattle.td_bases.specs.ForProofs.Keyed.{IsBeyond, IsIndexOf}
use Rattle.td_bases.proofs.Keyed.{all_done, here_left, none_yet, one_further}
use Rattle.td_bases.proofs.by_keys.settle_each.Goals as goal

pub loop-at-init : goal.loop-at-init
loop-at-init c = none_yet (IsBeyond c.args.relation.now (Has c.args.gone.now)) (IsIndexOf c.args.relation.now) c.args.indexes.now.items c.requires.beyond

pub settle-requires-clause-beyond : goal.settle-requires-clause-beyond
settle-requires-clause-beyond c =
    here_left (IsBeyond c.args.relation.now (Has c.args.gone.now)) (IsIndexOf c.args.relation.now) c.args.indexes.now.items c.loop-at.at c.loop-at.indexes.items c.index_mut.result.now (omega (arith, c.loop-at.invariant.many)) c.loop-at.invariant
    c.index_mut.ensures.value

pub loop-at-preserved : goal.loop-at-preserved
loop-at-preserved c =
    one_further (IsBeyond c.args.relation.now (Has c.args.gone.now)) (IsIndexOf c.args.relation.now) c.args.indexes.now.items c.loop-at.at c.loop-at.indexes.items c.index_mut.result.now c.settle.new.index (omega (arith, c.loop-at.invariant.many))
    c.loop-at.invariant c.index_mut.ensures.value c.settle.ensures.of c.settle.ensures.key

pub returns-clause-of : goal.returns-clause-of
returns-clause-of c = all_done (IsBeyond c.args.relation.now (Has c.args.gone.now)) (IsIndexOf c.args.relation.now) c.args.indexes.now.items c.loop-at.at c.loop-at.indexes.items (omega (arith, c.loop-at.invariant.many)) c.loop-at.invariant

pub returns-clause-keys : goal.returns-clause-keys
returns-clause-keys c = c.loop-at.invariant.keys
