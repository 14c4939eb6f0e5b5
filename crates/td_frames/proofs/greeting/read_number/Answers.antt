use Rattle.std.proofs.Common.{◌≡◌, ◌<◌, ◌≤◌, ◌⊎◌, inl, inr, ℕ, true, false, leb, ◌&&◌, Bool, Ok, arith, ap, sym, ◌∙◌, subst, refl}
use Rattle.std.proofs.lemmas.Bool.{le-leb, lt-leb}
use Rattle.std.specs.Int.{w32, from_be_bytes}
use Rattle.td_frames.specs.Reading.{bad, number_at}
use Rattle.td_frames.proofs.Steps.{told_short}
use Rattle.td_frames.proofs.InTurn.{checked_cut, checked_fails, checked_passes}
use Rattle.td_frames.proofs.greeting.read_number.Goals as goal

abbrev within : ℕ → Bool
within n = leb 1 n && leb n 1000000000

pub returns-in-Err-clause-told : goal.returns-in-Err-clause-told
returns-in-Err-clause-told g c =
    let (bytes, taken, few) = c.in-Err.ensures.err in
    (bytes, taken, told_short c.in-Err.e 4 bytes (number_at bytes) _ _ _ (λ lt. checked_cut 4 (λ b. within (from_be_bytes w32 b)) (from_be_bytes w32) bad bytes lt) few)

few : (n : ℕ) → (n < 1) ⊎ ((1 ≤ n) × (1000000000 < n)) → within n ≡ false
few n (inl lt) = rw (lt-leb 1 n lt) refl
few n (inr most) = rw (le-leb 1 n most.0, lt-leb n 1000000000 most.1) refl

enough : (n : ℕ) → 1 ≤ n → n ≤ 1000000000 → within n ≡ true
enough n low high = rw (le-leb 1 n low, le-leb n 1000000000 high) refl

pub returns-then-number-lt1-clause-told : goal.returns-then-number-lt1-clause-told
returns-then-number-lt1-clause-told g c =
    let b = c.read_field.new.buf in
    let is : c.from_be_bytes-number.result ≡ from_be_bytes w32 b = c.from_be_bytes-number.ensures in
    let out : within (from_be_bytes w32 b) ≡ false = subst (λ n. within n ≡ false) is (few _ c.then-number-lt1.either) in
    (b, c.in-Ok.ensures.ok, (checked_fails 4 (λ x. within (from_be_bytes w32 x)) (from_be_bytes w32) bad b (omega arith) out, c.in-Ok.ensures.count))

pub returns-clause-told : goal.returns-clause-told
returns-clause-told g c =
    let b = c.read_field.new.buf in
    let is : c.from_be_bytes-number.result ≡ from_be_bytes w32 b = c.from_be_bytes-number.ensures in
    let is_in : within (from_be_bytes w32 b) ≡ true = subst (λ n. within n ≡ true) is (enough _ c.if-number-lt1.false c.if-number-gt-LAST_NUMBER.false) in
    (b, c.in-Ok.ensures.ok, ((λ more. checked_passes 4 (λ x. within (from_be_bytes w32 x)) (from_be_bytes w32) bad b more (omega arith) is_in ∙ ap (λ n. Ok (n, more)) (sym is)), c.in-Ok.ensures.count))
