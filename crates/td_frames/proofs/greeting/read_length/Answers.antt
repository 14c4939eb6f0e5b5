use Rattle.std.proofs.Common.{◌≡◌, true, false, leb, Ok, arith, ap, sym, ◌∙◌, subst}
use Rattle.std.proofs.lemmas.Bool.{le-leb, lt-leb}
use Rattle.std.specs.Int.{w32, from_be_bytes}
use Rattle.td_frames.specs.Reading.{bad, length_at}
use Rattle.td_frames.proofs.Steps.{told_short}
use Rattle.td_frames.proofs.InTurn.{checked_cut, checked_fails, checked_passes}
use Rattle.td_frames.proofs.greeting.read_length.Goals as goal

pub returns-in-Err-clause-told : goal.returns-in-Err-clause-told
returns-in-Err-clause-told g c =
    let (bytes, taken, few) = c.in-Err.ensures.err in
    (bytes, taken, told_short c.in-Err.e 4 bytes (length_at bytes) _ _ _ (λ lt. checked_cut 4 (λ b. leb (from_be_bytes w32 b) 65536) (from_be_bytes w32) bad bytes lt) few)

pub returns-then-length-gt-SCRIPT_BYTES-clause-told : goal.returns-then-length-gt-SCRIPT_BYTES-clause-told
returns-then-length-gt-SCRIPT_BYTES-clause-told g c =
    let b = c.read_field.new.buf in
    let is : c.from_be_bytes-length.result ≡ from_be_bytes w32 b = c.from_be_bytes-length.ensures in
    let long : leb (from_be_bytes w32 b) 65536 ≡ false = subst (λ n. leb n 65536 ≡ false) is (lt-leb _ _ c.if-length-gt-SCRIPT_BYTES.true) in
    (b, c.in-Ok.ensures.ok, (checked_fails 4 (λ x. leb (from_be_bytes w32 x) 65536) (from_be_bytes w32) bad b (omega arith) long, c.in-Ok.ensures.count))

pub returns-clause-told : goal.returns-clause-told
returns-clause-told g c =
    let b = c.read_field.new.buf in
    let is : c.from_be_bytes-length.result ≡ from_be_bytes w32 b = c.from_be_bytes-length.ensures in
    let within : leb (from_be_bytes w32 b) 65536 ≡ true = subst (λ n. leb n 65536 ≡ true) is (le-leb _ _ c.if-length-gt-SCRIPT_BYTES.false) in
    (b, c.in-Ok.ensures.ok, ((λ more. checked_passes 4 (λ x. leb (from_be_bytes w32 x) 65536) (from_be_bytes w32) bad b more (omega arith) within ∙ ap (λ n. Ok (n, more)) (sym is)), c.in-Ok.ensures.count))
