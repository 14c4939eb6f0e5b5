use Rattle.std.proofs.Common.{◌++◌, ◌∷◌, [], length, ap, ◌∙◌, subst, arith}
use Rattle.td_meaning.specs.ForProofs.Pinned.{PinsAt}
use Rattle.td_meaning.proofs.Pinning.{one_pinned, pins_named}
use Rattle.td_meaning.proofs.keyed.key_values.Goals as goal

pub loop-name-preserved : goal.loop-name-preserved
loop-name-preserved c =
    let h = c.args.heading.now in
    let cs = c.args.checks.now in
    let fs = c.loop-name.values.items in
    let n = c.name-item.result in
    let d = c.in-Some.value.now in
    let wide = length c.fields-width.result.now in
    let pins = pins_named h cs wide n d (ap length c.fields-width.ensures) (subst (λ p. PinsAt cs wide p d) c.place_in.ensures c.in-Some.ensures) in
    one_pinned h cs c.args.key.now c.loop-name.name-index n (omega arith) c.name-item.is fs c.push.new.self.items d c.loop-name.invariant pins
    (c.in_ok-push.ensures.items ∙ (λ k. fs ++ (c.in_ok-copy.ensures k, c.in_ok-copy-2.ensures k) ∷ []))
