use Rattle.std.proofs.Common.{◌++◌, Some, Ok, sym, ap}
use Rattle.std.proofs.KnownBytes.{Consumes-trans}
use Rattle.td_journal.specs.ForProofs.{told_by}
use Rattle.td_journal.specs.Reading.{header_version_at, known_fields_at, owned_at, owner_fields}
use Rattle.td_journal.proofs.Fields.{header_told, version_then}
use Rattle.td_journal.proofs.reading.read_owned.Goals as goal

pub returns-in-Ok-Some-clause-told : goal.returns-in-Ok-Some-clause-told
returns-in-Ok-Some-clause-told g c =
    let n = c.args.site in
    let s = c.args.script.now in
    let v = c.in-Ok-Some.version in
    let left = g.S.Source.left in
    let count = g.S.Source.failures in
    let at0 = c.args.source.now in
    let at1 = c.read_version.new.source in
    let at2 = c.read_owner.new.source in
    let (b0, taken0, told0) = c.in-Ok-Some.ensures.told in
    let (b1, taken1, told1) = c.read_owner.ensures.told in
    let version = header_told header_version_at b0 (Ok c.in-Ok-Some.field-0) (Ok (Some v)) (left at1) (count at0) (count at1) (ap Ok c.in-Ok-Some.field-0-is) told0 in (
      b0 ++ b1,
      Consumes-trans _ _ _ _ _ taken0 taken1,
      header_told (owned_at n s) (b0 ++ b1) (told_by v c.read_owner.result) c.told_by.result (left at2) (count at0) (count at2) (sym c.told_by.ensures)
          (version_then (known_fields_at (owner_fields n s)) v b0 b1 c.read_owner.result (left at2) (left at1) (count at0) (count at1) (count at2) version told1),
    )
