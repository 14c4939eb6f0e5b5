use Rattle.std.proofs.Common.{◌≡◌, true, Ok, arith, ap, sym, ◌∙◌, refl}
use Rattle.std.specs.Int.{w16, from_be_bytes}
use Rattle.td_frames.specs.Reading.{bad, count_at}
use Rattle.td_frames.proofs.Steps.{told_short}
use Rattle.td_frames.proofs.InTurn.{checked_cut, checked_passes}
use Rattle.td_frames.proofs.greeting.read_count.Goals as goal

pub returns-in-Err-clause-told : goal.returns-in-Err-clause-told
returns-in-Err-clause-told g c =
    let (bytes, taken, few) = c.in-Err.ensures.err in
    (bytes, taken, told_short c.in-Err.e 2 bytes (count_at bytes) _ _ _ (λ lt. checked_cut 2 (λ b. true) (from_be_bytes w16) bad bytes lt) few)

pub returns-in-Ok-clause-told : goal.returns-in-Ok-clause-told
returns-in-Ok-clause-told g c =
    let b = c.read_field.new.buf in
    let is : c.from_be_bytes.result ≡ from_be_bytes w16 b = c.from_be_bytes.ensures in
    (b, c.in-Ok.ensures.ok, ((λ more. checked_passes 2 (λ x. true) (from_be_bytes w16) bad b more (omega arith) refl ∙ ap (λ n. Ok (n, more)) (sym is)), c.in-Ok.ensures.count))
