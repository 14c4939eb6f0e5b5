use Rattle.std.proofs.Common.{◌≡◌, ℕ, List, [], ◌∷◌, true, false, not, arith, subst}
use Rattle.std.specs.Str.{bytes_eq}
use Rattle.td_frames.specs.Reading.{version, version_at}
use Rattle.td_frames.proofs.Steps.{told_short}
use Rattle.td_frames.proofs.InTurn.{checked_cut, checked_passes, checked_fails, passed, failed}
use Rattle.td_frames.proofs.greeting.read_version.Goals as goal

pub returns-in-Err-clause-told : goal.returns-in-Err-clause-told
returns-in-Err-clause-told g c =
    let (bytes, taken, few) = c.in-Err.ensures.err in
    (bytes, taken, told_short c.in-Err.e 1 bytes (version_at bytes) _ _ _ (λ lt. checked_cut 1 (λ b. bytes_eq b (2 ∷ [])) (λ b. tt) version bytes lt) few)

pub returns-then-ne-clause-told : goal.returns-then-ne-clause-told
returns-then-ne-clause-told g c =
    let b = c.read_field.new.buf in
    let first : true ≡ not (bytes_eq b c.as_slice-2.result.now) = subst (λ (x : List ℕ). true ≡ not (bytes_eq x c.as_slice-2.result.now)) c.as_slice.ensures c.if-ne.ensures in
    let other : true ≡ not (bytes_eq b (2 ∷ [])) = subst (λ (x : List ℕ). true ≡ not (bytes_eq b x)) c.as_slice-2.ensures first in
    (b, c.in-Ok.ensures.ok, (checked_fails 1 (λ x. bytes_eq x (2 ∷ [])) (λ x. tt) version b (omega arith) (failed _ other), c.in-Ok.ensures.count))

pub returns-clause-told : goal.returns-clause-told
returns-clause-told g c =
    let b = c.read_field.new.buf in
    let first : false ≡ not (bytes_eq b c.as_slice-2.result.now) = subst (λ (x : List ℕ). false ≡ not (bytes_eq x c.as_slice-2.result.now)) c.as_slice.ensures c.if-ne.ensures in
    let other : false ≡ not (bytes_eq b (2 ∷ [])) = subst (λ (x : List ℕ). false ≡ not (bytes_eq b x)) c.as_slice-2.ensures first in
    (b, c.in-Ok.ensures.ok, ((λ more. checked_passes 1 (λ x. bytes_eq x (2 ∷ [])) (λ x. tt) version b more (omega arith) (passed _ other)), c.in-Ok.ensures.count))
