use Rattle.std.proofs.Common.{rules, ◌≡◌, ◌++◌, ◌∷◌, [], ℕ, List, get_or, take, sym, subst, ◌+◌}
use lib.Seq.{take-suc}
use Rattle.td_alarms.specs.Raising.{RaisesEach, none_raised, next_raised}
use Rattle.td_alarms.proofs.raising.raise_each.Goals as goal

pub loop-at-init : goal.loop-at-init
loop-at-init c = (none_raised, λ h. h)

pub loop-at-preserved : goal.loop-at-preserved
loop-at-preserved c =
    let i = c.loop-at.at in
    let sites = c.args.sites.now in
    let first = c.args.kept.now.items in
    let new = c.raise_one.new.kept.items in
    let next : take (i + 1) sites ≡ take i sites ++ get_or sites i 0 ∷ [] = search (rules, take-suc sites i 0 c.loop-at-test.true) in
    (subst (λ (l : List ℕ). RaisesEach c.args.address l first new) (sym next) (next_raised c.loop-at.invariant.0 c.in_ok-raise_one.ensures.raised), λ h. c.raise_one.ensures.few (c.loop-at.invariant.1 h))
