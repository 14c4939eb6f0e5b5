use Rattle.std.proofs.Common.{◌++◌, sym, ap, ◌∙◌, subst}
use Rattle.td_eval.specs.ForProofs.ByKey.{IsConjunction}
use Rattle.td_eval.proofs.by_key.equalities.Goals as goal

pub returns-then-branch : goal.returns-then-branch
returns-then-branch c =
    let (fs, are, conjunction) = c.in_ok-add_equalities.ensures c.if-branch.true in
    subst (IsConjunction c.args.condition.now) (sym (are ∙ ap (λ xs. xs ++ fs) c.new-found.ensures.items)) conjunction
