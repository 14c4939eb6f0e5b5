use Rattle.std.proofs.Common.{get_or, sym, subst}
use Rattle.std.proofs.lemmas.List.Elements.{Contains-get_or}
use Rattle.td_relations.specs.Sets.{Has}
use Rattle.td_algebra.specs.Raising.{Answers}
use Rattle.td_algebra.proofs.Bridges.{restricts_to}
use Rattle.td_algebra.proofs.Lists.{contains_in}
use Rattle.td_algebra.proofs.Made.{in_has}
use Rattle.td_eval.proofs.by_key.with_values.Goals as goal

pub returns : goal.returns
returns c = λ m decided.
    let part = c.args.part.now in
    restricts_to m part c.restrict.result (c.restrict.ensures m (λ k d lt r gave.
    let t = get_or part.tuples k d in
    let there = subst (Has part) (sym gave.shows) (in_has part t (contains_in part.tuples t (Contains-get_or part.tuples k d lt))) in
    subst (λ u. Answers r (m u)) gave.shows (subst (Answers r) (sym (decided gave.shown.now there)) gave.says.met)))
