use Rattle.std.proofs.Common.{◌≡◌, ◌++◌, true, sym, ap, subst, ◌∙◌}
use Rattle.td_stamps.specs.Sets.{ascends}
use Rattle.td_stamps.proofs.Places.{set_ascends}
use Rattle.td_stamps.proofs.merge.join_one.Goals as goal

pub put_one-requires-clause-ascends : goal.put_one-requires-clause-ascends
put_one-requires-clause-ascends c =
    let items = c.in_ok-reserve.ensures.items ∙ c.in_ok-push_copies.ensures ∙ ap (λ t. t ++ c.args.held.now) c.in_ok-all.ensures.items in
    subst (λ t. ascends t ≡ true) (sym items) (set_ascends c.args.held.now c.requires)
