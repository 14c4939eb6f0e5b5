use Rattle.std.proofs.Common.{rules, ◌≡◌, ℕ, List, [], ◌∷◌, ◌++◌, length, Ok, Err, true, false, refl, ap}
use Rattle.std.proofs.KnownBytes.{Consumes-trans}
use Rattle.std.specs.Int.{w16, w32, to_be_bytes}
use Rattle.td_journal.specs.Reading.{known_field_at, known_fields_at}
use Rattle.td_journal.specs.declared.error.JournalError.{JournalError}
use Rattle.td_journal.specs.declared.error.JournalError.TheVariants.{OtherSite, OtherScript}
use Rattle.td_journal.proofs.Fields.{field_as, field_first, fields_cut, fields_refused, last_field}
use Rattle.td_journal.proofs.reading.read_owner.Goals as goal

-- the fields behind the site, and behind the length of the script
abbrev after_length : List ℕ → List (List ℕ × JournalError)
after_length s = (s, OtherScript) ∷ []

abbrev after_site : List ℕ → List (List ℕ × JournalError)
after_site s = (to_be_bytes w32 (length s), OtherScript) ∷ after_length s

pub returns-in-Err-read_field-clause-told : goal.returns-in-Err-read_field-clause-told
returns-in-Err-read_field-clause-told g c =
    let n = c.args.site in
    let s = c.args.script.now in
    let left = g.S.Source.left in
    let count = g.S.Source.failures in
    let at0 = c.args.source.now in
    let at1 = c.read_field.new.source in
    let at2 = c.read_field-2.new.source in
    let (b0, taken0, told0) = c.in-Ok-true.ensures.told in
    let (b1, taken1, told1) = c.in-Err-read_field.ensures.told in
    let is0 : c.as_slice.result.now ≡ to_be_bytes w16 n = search rules in
    let is1 : c.as_slice-2.result.now ≡ to_be_bytes w32 (length s) = search rules in (
      b0 ++ b1,
      Consumes-trans _ _ _ _ _ taken0 taken1,
      field_first (to_be_bytes w16 n) OtherSite (after_site s) b0 b1 (Err c.in-Err-read_field.error) (left at2) (left at1) (count at0) (count at1) (count at2)
          (field_as c.as_slice.result.now (to_be_bytes w16 n) OtherSite b0 (Ok c.in-Ok-true.field-0) (Ok true) (left at1) (count at0) (count at1) is0 (ap Ok c.in-Ok-true.field-0-test) told0)
          (fields_refused (known_field_at (to_be_bytes w32 (length s)) OtherScript) (known_fields_at (after_length s)) b1 c.in-Err-read_field.error (left at2) (count at1) (count at2)
          (field_as c.as_slice-2.result.now (to_be_bytes w32 (length s)) OtherScript b1 (Err c.in-Err-read_field.error) (Err c.in-Err-read_field.error) (left at2) (count at1) (count at2) is1 refl told1)),
    )

pub returns-in-Ok-false-read_field-clause-told : goal.returns-in-Ok-false-read_field-clause-told
returns-in-Ok-false-read_field-clause-told g c =
    let n = c.args.site in
    let s = c.args.script.now in
    let left = g.S.Source.left in
    let count = g.S.Source.failures in
    let at0 = c.args.source.now in
    let at1 = c.read_field.new.source in
    let at2 = c.read_field-2.new.source in
    let (b0, taken0, told0) = c.in-Ok-true.ensures.told in
    let (b1, taken1, told1) = c.in-Ok-false-read_field.ensures.told in
    let is0 : c.as_slice.result.now ≡ to_be_bytes w16 n = search rules in
    let is1 : c.as_slice-2.result.now ≡ to_be_bytes w32 (length s) = search rules in (
      b0 ++ b1,
      Consumes-trans _ _ _ _ _ taken0 taken1,
      field_first (to_be_bytes w16 n) OtherSite (after_site s) b0 b1 (Ok false) (left at2) (left at1) (count at0) (count at1) (count at2)
          (field_as c.as_slice.result.now (to_be_bytes w16 n) OtherSite b0 (Ok c.in-Ok-true.field-0) (Ok true) (left at1) (count at0) (count at1) is0 (ap Ok c.in-Ok-true.field-0-test) told0)
          (fields_cut (known_field_at (to_be_bytes w32 (length s)) OtherScript) (known_fields_at (after_length s)) b1 (left at2) (count at1) (count at2)
          (field_as c.as_slice-2.result.now (to_be_bytes w32 (length s)) OtherScript b1 (Ok c.in-Ok-false-read_field.field-0) (Ok false) (left at2) (count at1) (count at2) is1 (ap Ok c.in-Ok-false-read_field.field-0-test) told1)),
    )

pub returns-clause-told : goal.returns-clause-told
returns-clause-told g c =
    let n = c.args.site in
    let s = c.args.script.now in
    let left = g.S.Source.left in
    let count = g.S.Source.failures in
    let at0 = c.args.source.now in
    let at1 = c.read_field.new.source in
    let at2 = c.read_field-2.new.source in
    let at3 = c.read_field-3.new.source in
    let (b0, taken0, told0) = c.in-Ok-true.ensures.told in
    let (b1, taken1, told1) = c.in-Ok-true-read_field.ensures.told in
    let (b2, taken2, told2) = c.read_field-3.ensures.told in
    let is0 : c.as_slice.result.now ≡ to_be_bytes w16 n = search rules in
    let is1 : c.as_slice-2.result.now ≡ to_be_bytes w32 (length s) = search rules in
    let is2 : c.as_bytes.result.now ≡ s = search rules in (
      b0 ++ (b1 ++ b2),
      Consumes-trans _ _ _ _ _ taken0 (Consumes-trans _ _ _ _ _ taken1 taken2),
      field_first (to_be_bytes w16 n) OtherSite (after_site s) b0 (b1 ++ b2) c.read_field-3.result (left at3) (left at1) (count at0) (count at1) (count at3)
          (field_as c.as_slice.result.now (to_be_bytes w16 n) OtherSite b0 (Ok c.in-Ok-true.field-0) (Ok true) (left at1) (count at0) (count at1) is0 (ap Ok c.in-Ok-true.field-0-test) told0)
          (field_first (to_be_bytes w32 (length s)) OtherScript (after_length s) b1 b2 c.read_field-3.result (left at3) (left at2) (count at1) (count at2) (count at3)
          (field_as c.as_slice-2.result.now (to_be_bytes w32 (length s)) OtherScript b1 (Ok c.in-Ok-true-read_field.field-0) (Ok true) (left at2) (count at1) (count at2) is1 (ap Ok c.in-Ok-true-read_field.field-0-test) told1)
          (last_field s OtherScript b2 c.read_field-3.result (left at3) (count at2) (count at3)
          (field_as c.as_bytes.result.now s OtherScript b2 c.read_field-3.result c.read_field-3.result (left at3) (count at2) (count at3) is2 refl told2))),
    )
