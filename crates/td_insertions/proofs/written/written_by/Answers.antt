use Rattle.std.proofs.Common.{refl, ap, sym, ◌∙◌, subst, ◌≡◌, []}
use Rattle.td_syntax.specs.declared.tree.BinaryOperator.TheVariants as binary
use Rattle.td_headings.specs.Reached.{named_relvars}
use Rattle.td_typed_trees.specs.declared.expression.Expression.{Expression}
use Rattle.td_typed_trees.specs.declared.tree.Typed.{Typed}
use Rattle.td_typed_trees.specs.declared.tree.Typed.TheVariants as tree
use Rattle.td_insertions.proofs.written.written_by.Goals as goal

pub returns-then-branch : goal.returns-then-branch
returns-then-branch c =
    let a = c.args.assignment.now in
    let terms = c.in-Some-count_terms.ensures in
    let form = sym (c.get-2.ensures ∙ ap (λ (x : Expression). x.tree) c.get.ensures.same) ∙ c.in-Some.ensures in
    record {
      target = refl;
      heading = terms.0;
      terms = terms.1;
      source = form ∙ ap (λ (u : Typed). tree.Binary binary.Union (tree.Relvar a.target) u) terms.2;
      unread = subst (λ (u : Typed). named_relvars u ≡ []) terms.2 (c.in_ok-names_no_relvar.ensures c.if-branch.true);
      each = terms.3;
    }
