use Rattle.std.proofs.Common.{◌≡◌, true, sym, subst, arith}
use Rattle.std.proofs.lemmas.List.{take_all}
use Rattle.td_algebra.specs.KeyIndexes.{has_named}
use Rattle.td_eval.proofs.ByKey.{AreGiven, has_key, one_given}
use Rattle.td_eval.proofs.by_key.key_values.Goals as goal

pub loop-name-preserved : goal.loop-name-preserved
loop-name-preserved c =
    one_given c.args.key.now c.loop-name.name-index c.name-item.result (omega arith) c.name-item.is c.args.values.now c.loop-name.given.items c.push.new.self.items c.in-Some.value.now (c.in_ok-copy.field-0, c.in_ok-copy-2.field-0)
    c.loop-name.invariant c.in-Some.ensures c.in_ok-push.ensures.items c.in_ok-copy.ensures c.in_ok-copy-2.ensures

pub returns : goal.returns
returns c = λ t all.
    let key = c.args.key.now in
    let fs = c.args.values.now in
    let gs = c.loop-name.given.items in
    let are = subst (λ names. AreGiven names fs gs) (take_all c.loop-name.name-index key (omega arith)) c.loop-name.invariant in
    subst (λ u. has_named key u t ≡ true) (sym c.in_ok-tuple_of.ensures) (has_key fs t all key gs are)
