use Rattle.std.proofs.Common.{◌++◌}
use Rattle.std.proofs.KnownBytes.{Consumes-trans}
use Rattle.td_frames.specs.Reading.{length_at, utf8_at}
use Rattle.td_frames.proofs.InTurn.{reads_then, told_then}
use Rattle.td_frames.proofs.greeting.read_script.Goals as goal

pub returns-in-Ok-clause-told : goal.returns-in-Ok-clause-told
returns-in-Ok-clause-told g c =
    let (first, taken, told) = c.in-Ok.ensures.told in
    let (second, more, rest) = c.read_text_of.ensures.told in
    (first ++ second, Consumes-trans _ _ _ _ _ taken more, reads_then length_at utf8_at c.in-Ok.length first second c.read_text_of.result _ _ _ _ told.0 told.1 rest)

pub returns-in-Err-clause-told : goal.returns-in-Err-clause-told
returns-in-Err-clause-told g c =
    let (bytes, taken, told) = c.in-Err.ensures.told in
    (bytes, taken, told_then c.in-Err.e (length_at bytes) utf8_at _ _ _ told)
