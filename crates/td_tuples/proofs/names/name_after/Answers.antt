use Rattle.std.proofs.Common.{◌≡◌, ◌+◌, cond, Some, IfOk, drop, unwrap_or, sym, ap, ◌∙◌, subst, arith}
use Rattle.std.specs.FinMap as by_name
use Rattle.td_values.specs.Order.{text_cmp}
use Rattle.td_tuples.specs.Renamings.{name_after}
use Rattle.td_tuples.proofs.Steps.{looked_at}
use Rattle.td_tuples.proofs.names.name_after.Goals as goal

pub loop-old-preserved : goal.loop-old-preserved
loop-old-preserved c =
    let x = c.loop-old-item.result in
    let rest = by_name.find text_cmp c.args.name.now (drop (c.loop-old.old-index + 1) c.args.items.now) in
    c.loop-old.invariant ∙ looked_at c.args.name.now c.args.items.now c.loop-old.old-index x (omega arith) c.loop-old-item.is
    ∙ ap (λ b. cond b (Some x.1) rest) (sym c.eq.ensures ∙ c.if-eq.false)

pub returns-then-eq : goal.returns-then-eq
returns-then-eq c =
    let x = c.loop-old-item.result in
    let n = c.args.name.now in
    let rest = by_name.find text_cmp n (drop (c.loop-old.old-index + 1) c.args.items.now) in
    let found : x.1 ≡ name_after c.args.items.now n = sym (ap (λ o. unwrap_or o n) (c.loop-old.invariant ∙ looked_at n c.args.items.now c.loop-old.old-index x (omega arith) c.loop-old-item.is
    ∙ ap (λ b. cond b (Some x.1) rest) (sym c.eq.ensures ∙ c.if-eq.true))) in
    subst (λ w. IfOk c.copy.result (λ m. m ≡ w)) found c.copy.ensures
