use Rattle.std.proofs.Common.{rules, ◌≡◌, ◌++◌, codes, Ok, true, ap}
use Rattle.std.proofs.KnownBytes.{Consumes-trans}
use Rattle.td_journal.specs.Reading.{known_field_at, owned_at}
use Rattle.td_journal.specs.declared.error.JournalError.TheVariants.{Magic}
use Rattle.td_journal.proofs.Fields.{field_as, letters_then}
use Rattle.td_journal.proofs.reading.read_header.Goals as goal

pub returns-in-Ok-true-clause-told : goal.returns-in-Ok-true-clause-told
returns-in-Ok-true-clause-told g c =
    let n = c.args.site in
    let s = c.args.script.now in
    let left = g.S.Source.left in
    let count = g.S.Source.failures in
    let at0 = c.args.source.now in
    let at1 = c.read_field.new.source in
    let at2 = c.read_owned.new.source in
    let (b0, taken0, told0) = c.in-Ok-true.ensures.told in
    let (b1, taken1, told1) = c.read_owned.ensures.told in
    let is0 : c.as_slice.result.now ≡ codes "JTDB" = search rules in
    let letters = field_as c.as_slice.result.now (codes "JTDB") Magic b0 (Ok c.in-Ok-true.field-0) (Ok true) (left at1) (count at0) (count at1) is0 (ap Ok c.in-Ok-true.field-0-test) told0 in (
      b0 ++ b1,
      Consumes-trans _ _ _ _ _ taken0 taken1,
      letters_then (known_field_at (codes "JTDB") Magic) (owned_at n s) b0 b1 c.read_owned.result (left at2) (left at1) (count at0) (count at1) (count at2) letters told1,
    )
