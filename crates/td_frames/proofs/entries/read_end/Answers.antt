use Rattle.std.proofs.Common.{◌≡◌, ℕ, List, [], ◌∷◌, true, false, not, arith, subst, ap, sym, ◌∙◌, append-nil}
use Rattle.std.specs.Str.{bytes_eq}
use Rattle.td_frames.specs.Reading.{bad, checked_at, end_at}
use Rattle.td_frames.proofs.Steps.{told_short}
use Rattle.td_frames.proofs.InTurn.{checked_cut, checked_passes, checked_fails, passed, failed}
use Rattle.td_frames.proofs.entries.read_end.Goals as goal

pub returns-in-Err-clause-told : goal.returns-in-Err-clause-told
returns-in-Err-clause-told g c =
    let (bytes, taken, few) = c.in-Err.ensures.err in
    (bytes, taken, told_short c.in-Err.e 1 bytes (end_at bytes) _ _ _ (λ lt. checked_cut 1 (λ b. bytes_eq b (90 ∷ [])) (λ b. tt) bad bytes lt) few)

pub returns-then-ne-clause-told : goal.returns-then-ne-clause-told
returns-then-ne-clause-told g c =
    let b = c.read_field.new.buf in
    let first : true ≡ not (bytes_eq b c.as_slice-2.result.now) = subst (λ (x : List ℕ). true ≡ not (bytes_eq x c.as_slice-2.result.now)) c.as_slice.ensures c.if-ne.ensures in
    let other : true ≡ not (bytes_eq b (90 ∷ [])) = subst (λ (x : List ℕ). true ≡ not (bytes_eq b x)) c.as_slice-2.ensures first in
    (b, c.in-Ok.ensures.ok, (checked_fails 1 (λ x. bytes_eq x (90 ∷ [])) (λ x. tt) bad b (omega arith) (failed _ other), c.in-Ok.ensures.count))

pub returns-clause-told : goal.returns-clause-told
returns-clause-told g c =
    let b = c.read_field.new.buf in
    let first : false ≡ not (bytes_eq b c.as_slice-2.result.now) = subst (λ (x : List ℕ). false ≡ not (bytes_eq x c.as_slice-2.result.now)) c.as_slice.ensures c.if-ne.ensures in
    let other : false ≡ not (bytes_eq b (90 ∷ [])) = subst (λ (x : List ℕ). false ≡ not (bytes_eq b x)) c.as_slice-2.ensures first in
    (b, c.in-Ok.ensures.ok, (ap (checked_at 1 (λ x. bytes_eq x (90 ∷ [])) (λ x. tt) bad) (sym (append-nil b)) ∙ checked_passes 1 (λ x. bytes_eq x (90 ∷ [])) (λ x. tt) bad b [] (omega arith) (passed _ other), c.in-Ok.ensures.count))
