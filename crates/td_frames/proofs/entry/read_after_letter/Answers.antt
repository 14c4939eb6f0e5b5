use Rattle.std.proofs.Common.{[], refl, ap, ◌∙◌}
use Rattle.std.proofs.KnownBytes.{Consumes-nil}
use Rattle.td_frames.specs.Reading.{entry_at, some_entry}
use Rattle.td_frames.proofs.Steps.{letter_other, letter_end, letter_entry, told_err}
use Rattle.td_frames.proofs.entry.read_after_letter.Goals as goal

pub returns-then-letter-eq90-clause-told : goal.returns-then-letter-eq90-clause-told
returns-then-letter-eq90-clause-told g c = ([], Consumes-nil _, (letter_end c.args.version c.args.letter [] c.if-letter-eq90.true, refl))

pub returns-then-letter-ne69-clause-told : goal.returns-then-letter-ne69-clause-told
returns-then-letter-ne69-clause-told g c = ([], Consumes-nil _, (letter_other c.args.version c.args.letter [] c.if-letter-eq90.false c.if-letter-ne69.true, refl))

pub returns-in-Err-clause-told : goal.returns-in-Err-clause-told
returns-in-Err-clause-told g c =
    let (bytes, taken, told) = c.in-Err.ensures.told in
    (bytes, taken, rw (letter_entry c.args.version c.args.letter bytes c.if-letter-ne69.false) (told_err c.in-Err.e (entry_at c.args.version bytes) _ _ _ told))

pub returns-in-Ok-clause-told : goal.returns-in-Ok-clause-told
returns-in-Ok-clause-told g c =
    let (bytes, taken, told) = c.in-Ok.ensures.told in
    (bytes, taken, (letter_entry c.args.version c.args.letter bytes c.if-letter-ne69.false ∙ ap some_entry told.0, told.1))
