use Rattle.std.proofs.Common.{arith, ◌≡◌, ◌<◌, ◌++◌, length, sym, ap, ◌∙◌}
use Rattle.std.proofs.KnownBytes.{Consumes-trans}
use Rattle.td_frames.specs.Reading.{text_at, entry_at}
use Rattle.td_frames.proofs.Steps.{told_short, entry_short, entry_then}
use Rattle.td_frames.proofs.entry.read_entry.Goals as goal

pub returns-in-Err-clause-told : goal.returns-in-Err-clause-told
returns-in-Err-clause-told g c =
    let (bytes, taken, few) = c.in-Err.ensures.err in
    let cut = λ (lt : length bytes < length c.split_at_mut-head.result.0.now). entry_short c.args.version bytes (omega (arith, lt)) in
    (bytes, taken, told_short c.in-Err.e (length c.split_at_mut-head.result.0.now) bytes (entry_at c.args.version bytes) _ _ _ cut few)

pub returns-in-Ok-clause-told : goal.returns-in-Ok-clause-told
returns-in-Ok-clause-told g c =
    let head = c.read_field.new.buf in
    let (bytes, taken, told) = c.read_text.ensures.told in
    let same : entry_at c.args.version (head ++ bytes) ≡ text_at c.fields_of.result bytes = entry_then c.args.version head bytes (omega arith) ∙ ap (λ h. text_at h bytes) (sym c.fields_of.ensures) in
    (head ++ bytes, Consumes-trans _ _ _ _ _ c.in-Ok.ensures.ok taken, rw (same, ← c.in-Ok.ensures.count) told)
