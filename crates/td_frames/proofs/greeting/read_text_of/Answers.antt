use Rattle.std.proofs.Common.{◌≡◌, true, Ok, ap, sym, ◌∙◌, subst, string_bytes}
use Rattle.std.specs.Prelude.{IsUtf8}
use Rattle.std.specs.Str.{is_utf8}
use Rattle.std.proofs.lemmas.Str.{IsUtf8-string_bytes, is_utf8-from_IsUtf8}
use Rattle.td_frames.specs.Reading.{bad, utf8_at}
use Rattle.td_frames.proofs.Steps.{told_short, not_text}
use Rattle.td_frames.proofs.InTurn.{checked_cut, checked_fails, checked_passes}
use Rattle.td_frames.proofs.greeting.read_text_of.Goals as goal

pub returns-in-Err-clause-told : goal.returns-in-Err-clause-told
returns-in-Err-clause-told g c =
    let (bytes, taken, few) = c.in-Err.ensures.err in
    (bytes, taken, told_short c.in-Err.e c.args.length bytes (utf8_at c.args.length bytes) _ _ _ (λ lt. checked_cut c.args.length is_utf8 (λ b. b) bad bytes lt) few)

pub returns-in_default-clause-told : goal.returns-in_default-clause-told
returns-in_default-clause-told g c =
    let bytes = c.in-Ok.bytes.items in
    let (taken, len, count) = c.in-Ok.ensures.ok in
    (bytes, taken, (checked_fails c.args.length is_utf8 (λ b. b) bad bytes len (not_text bytes (λ u. absurd (cc (c.in_default.ensures.succeeds u)))), count))

pub returns-in-Ok-new-clause-told : goal.returns-in-Ok-new-clause-told
returns-in-Ok-new-clause-told g c =
    let bytes = c.in-Ok.bytes.items in
    let (taken, len, count) = c.in-Ok.ensures.ok in
    let same : string_bytes c.in-Ok-from_utf8.text ≡ bytes = ap (λ v. v.items) c.in-Ok-from_utf8.ensures.ok in
    let text : is_utf8 bytes ≡ true = is_utf8-from_IsUtf8 bytes (subst IsUtf8 same (IsUtf8-string_bytes c.in-Ok-from_utf8.text)) in
    (bytes, taken, ((λ more. checked_passes c.args.length is_utf8 (λ b. b) bad bytes more len text ∙ ap (λ t. Ok (t, more)) (sym (c.in-Ok-new.ensures ∙ same))), count))
