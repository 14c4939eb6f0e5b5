use Rattle.std.proofs.Common.{IfOk, IsTrue, ap, ◌∙◌, subst}
use Rattle.td_typed_trees.specs.declared.tree.Typed.TheVariants as typed
use Rattle.td_eval.specs.ForProofs.ByKey.{AddsEqualities}
use Rattle.td_eval.proofs.ByKey.{adds_if}
use Rattle.td_eval.proofs.by_key.+equalities.Goals as goal

pub returns-then-branch : goal.returns-then-branch
returns-then-branch t c =
    let x = c.in-Binary in
    let old = c.args.equalities.now.items in
    let mid = c.add_equalities.new.equalities.items in
    let new = c.add_equalities-then-branch.new.equalities.items in
    let answer = c.add_equalities-then-branch.result in
    let is = x.is ∙ ap (λ o. typed.Binary o x.a x.b) (c.is_and.ensures c.if-is_and.true) in
    let first = subst (λ a. AddsEqualities a old mid) c.get.ensures (c.in_ok-add_equalities-in-Binary.ensures c.if-branch.true) in
    adds_if c.args.tree.now x.a x.b old mid new is first answer
    (subst (λ b. IfOk answer (λ y. IsTrue y → AddsEqualities b mid new)) c.get-then-branch.ensures c.add_equalities-then-branch.ensures)
