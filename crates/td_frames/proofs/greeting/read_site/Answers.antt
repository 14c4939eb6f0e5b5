use Rattle.std.proofs.Common.{◌≡◌, true, false, ltb, Ok, arith, ap, sym, ◌∙◌, subst}
use Rattle.std.proofs.lemmas.Bool.{le-ltb, lt-ltb}
use Rattle.std.specs.Int.{w16, from_be_bytes}
use Rattle.td_frames.specs.Reading.{bad, site_at}
use Rattle.td_frames.proofs.Steps.{told_short}
use Rattle.td_frames.proofs.InTurn.{checked_cut, checked_fails, checked_passes}
use Rattle.td_frames.proofs.greeting.read_site.Goals as goal

pub returns-in-Err-clause-told : goal.returns-in-Err-clause-told
returns-in-Err-clause-told g c =
    let (bytes, taken, few) = c.in-Err.ensures.err in
    (bytes, taken, told_short c.in-Err.e 2 bytes (site_at c.args.last bytes) _ _ _ (λ lt. checked_cut 2 (λ b. ltb c.args.last (from_be_bytes w16 b)) (from_be_bytes w16) bad bytes lt) few)

pub returns-then-site-last-clause-told : goal.returns-then-site-last-clause-told
returns-then-site-last-clause-told g c =
    let b = c.read_field.new.buf in
    let is : c.from_be_bytes-site.result ≡ from_be_bytes w16 b = c.from_be_bytes-site.ensures in
    let low : ltb c.args.last (from_be_bytes w16 b) ≡ false = subst (λ n. ltb c.args.last n ≡ false) is (le-ltb _ _ c.if-site-last.true) in
    (b, c.in-Ok.ensures.ok, (checked_fails 2 (λ x. ltb c.args.last (from_be_bytes w16 x)) (from_be_bytes w16) bad b (omega arith) low, c.in-Ok.ensures.count))

pub returns-clause-told : goal.returns-clause-told
returns-clause-told g c =
    let b = c.read_field.new.buf in
    let is : c.from_be_bytes-site.result ≡ from_be_bytes w16 b = c.from_be_bytes-site.ensures in
    let high : ltb c.args.last (from_be_bytes w16 b) ≡ true = subst (λ n. ltb c.args.last n ≡ true) is (lt-ltb _ _ c.if-site-last.false) in
    (b, c.in-Ok.ensures.ok, ((λ more. checked_passes 2 (λ x. ltb c.args.last (from_be_bytes w16 x)) (from_be_bytes w16) bad b more (omega arith) high ∙ ap (λ n. Ok (n, more)) (sym is)), c.in-Ok.ensures.count))
