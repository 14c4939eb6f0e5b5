use Rattle.std.proofs.Common.{◌≡◌, List, ℕ, IfOk, sym, ◌∙◌, subst}
use Rattle.td_values.proofs.Walks.{is_tied}
use Rattle.td_tuples.proofs.Lists.{same_name}
use Rattle.td_eval.proofs.naming.shared_name.Goals as goal

pub returns-in-Some : goal.returns-in-Some
returns-in-Some c =
    let same = same_name c.in-Some.field.now.0 c.args.name.now (is_tied _ (sym c.eq.ensures ∙ c.if-eq.true)) in
    subst (λ (m : List ℕ). IfOk c.copy.result (λ n. n ≡ m)) same c.copy.ensures
