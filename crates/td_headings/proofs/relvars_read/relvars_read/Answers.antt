use Rattle.std.proofs.Common.{List, ◌++◌, ◌∷◌, [], take, sym, subst}
use Rattle.td_tuples.proofs.Filters.{taken}
use Rattle.td_headings.specs.ForProofs.RelvarsRead.{AreTold}
use Rattle.td_headings.specs.declared.relvars_read.RelvarsRead.{RelvarsRead}
use Rattle.td_headings.proofs.RelvarsRead.{none_told, one_told}
use Rattle.td_headings.proofs.relvars_read.relvars_read.Goals as goal

pub loop-expr-init : goal.loop-expr-init
loop-expr-init c = subst (AreTold _) (sym c.in_ok-told.ensures.items) none_told

pub loop-expr-preserved : goal.loop-expr-preserved
loop-expr-preserved c =
    let xs = c.args.exprs.now in
    let i = c.loop-expr.expr-index in
    let x = c.expr-item.result in
    let ys = c.loop-expr.told.items in
    let y = c.read_by.result in
    subst (λ ws. AreTold ws c.push.new.self.items) (sym (taken xs i x c.loop-expr-test.true c.expr-item.is))
    (subst (AreTold (take i xs ++ x ∷ [])) (sym {A = List RelvarsRead} c.in_ok-push.ensures.items) (one_told (take i xs) ys x y c.loop-expr.invariant c.read_by.ensures))
