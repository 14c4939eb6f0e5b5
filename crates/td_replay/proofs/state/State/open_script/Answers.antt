use Rattle.std.proofs.Common.{◌≡◌, ◌≤◌, ℕ, List, [], true, sym, subst, arith}
use Rattle.std.proofs.lemmas.Bool.Decides.{nat_tests}
use Rattle.td_stamps.specs.Sets.{Holding}
use Rattle.td_replay.specs.ForProofs.Told.{IsLogged}
use Rattle.td_replica.specs.NewSites.{Fit}
use Rattle.td_replica.specs.Seen.{is_limit}
use Rattle.td_replay.proofs.state.State.open_script.Goals as goal

within : (n : ℕ) → 1 ≤ n → n ≤ 100000 → is_limit n ≡ true
within n low high = grind (arith, nat_tests)

pub invariant_of-result : goal.invariant_of-result
invariant_of-result c =
    let text = c.args.script.now in
    let told = c.in-Ok-begun.told in
    let logged = c.in-Ok-begun.ensures text c.in-Ok.ensures.opens in
    let kept = subst (λ (t : List ℕ). IsLogged t [] told.log.items told.engine) (sym c.in-Ok-from_str.ensures) logged in
    let fits : 1 ≤ c.args.site = omega (arith, c.if-site-eq0.false) in
    let low : 1 ≤ c.args.limit = omega (arith, c.if-limit-eq0.false) in
    subst (λ (h : Holding). (1 ≤ c.args.site) × (is_limit h.limit ≡ true) × IsLogged c.in-Ok-from_str.script h.entries told.log.items told.engine) (sym c.new.ensures)
    (fits, within c.args.limit low c.if-limit-gt-MOST_ENTRIES.false, kept)

pub returns-in-Err : goal.returns-in-Err
returns-in-Err c =
    let low : 1 ≤ c.args.limit = omega (arith, c.if-limit-eq0.false) in
    let fit : Fit c.args.site c.args.limit = (c.if-site-eq0.false, within c.args.limit low c.if-limit-gt-MOST_ENTRIES.false) in
    c.from.ensures c.args.script.now c.args.site c.args.limit fit c.in-Err.ensures.opens
