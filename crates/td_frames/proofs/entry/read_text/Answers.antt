use Rattle.std.proofs.Common.{arith, ◌≡◌, ◌<◌, [], length, refl, sym, ap, ◌∙◌, subst, append-nil, string_bytes, Ok}
use Rattle.std.specs.Prelude.{IsUtf8}
use Rattle.std.proofs.lemmas.Str.{IsUtf8-string_bytes}
use Rattle.std.proofs.KnownBytes.{Consumes-nil}
use Rattle.td_stamps.specs.declared.entry.Entry.{Entry}
use Rattle.td_frames.specs.Reading.{text_at, with_text}
use Rattle.td_frames.proofs.Steps.{told_short, text_long, text_short, text_whole, text_not}
use Rattle.td_frames.proofs.entry.read_text.Goals as goal

pub returns-then-head-gt-MOST_TEXT-clause-told : goal.returns-then-head-gt-MOST_TEXT-clause-told
returns-then-head-gt-MOST_TEXT-clause-told g c = ([], Consumes-nil _, (text_long c.args.head [] c.if-head-gt-MOST_TEXT.true, refl))

pub returns-in-Err-clause-told : goal.returns-in-Err-clause-told
returns-in-Err-clause-told g c =
    let (bytes, taken, few) = c.in-Err.ensures.err in
    let short_text = λ (lt : length bytes < c.args.head.length). text_short c.args.head bytes (omega arith) lt in
    (bytes, taken, told_short c.in-Err.e c.args.head.length bytes (text_at c.args.head bytes) _ _ _ short_text few)

pub returns-in_default-clause-told : goal.returns-in_default-clause-told
returns-in_default-clause-told g c =
    let bytes = c.in-Ok.bytes.items in
    let (taken, len, count) = c.in-Ok.ensures.ok in
    let not_text : IsUtf8 bytes → ⊥ = λ u. absurd (cc (c.in_default.ensures.succeeds u)) in
    (bytes, taken, (ap (text_at c.args.head) (sym (append-nil bytes)) ∙ text_not c.args.head bytes [] (omega arith) len not_text, count))

pub returns-in-Ok-entry_of-clause-told : goal.returns-in-Ok-entry_of-clause-told
returns-in-Ok-entry_of-clause-told g c =
    let bytes = c.in-Ok.bytes.items in
    let (taken, len, count) = c.in-Ok.ensures.ok in
    let same : string_bytes c.in-Ok-from_utf8.text ≡ bytes = ap (λ v. v.items) c.in-Ok-from_utf8.ensures.ok in
    let whole : text_at c.args.head bytes ≡ Ok (with_text c.args.head bytes, []) = ap (text_at c.args.head) (sym (append-nil bytes)) ∙ text_whole c.args.head bytes [] (omega arith) len (subst IsUtf8 same (IsUtf8-string_bytes c.in-Ok-from_utf8.text)) in
    let is : c.in-Ok-entry_of.entry ≡ with_text c.args.head bytes = c.in-Ok-entry_of.ensures ∙ ap (with_text c.args.head) same in
    (bytes, taken, (whole ∙ ap (λ (e : Entry). Ok (e, [])) (sym is), count))
