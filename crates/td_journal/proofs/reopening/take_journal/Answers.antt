use Rattle.std.proofs.Common.{None, Some, Ok, Err, ap, refl, subst, sym}
use Rattle.td_io.specs.Views.{input_of}
use Rattle.td_journal.specs.Reopening.{RetakesNot}
use Rattle.td_journal.specs.declared.reopening.ReopenError.{ReopenError}
use Rattle.td_journal.proofs.ComesBack.{comes_back, cut_header, header_as, refused_header}
use Rattle.td_journal.proofs.reopening.take_journal.Goals as goal

pub returns-in-Ok-Some-clause-taken : goal.returns-in-Ok-Some-clause-taken
returns-in-Ok-Some-clause-taken g c =
    let s = g.R.Replica.seen c.args.replica in
    let v = c.in-Ok-Some.version in
    let (b, consumed, told) = c.in-Ok-Some.ensures.told in
    let header = header_as c.site.result c.script.result.now s b _ (Ok (Some v)) _ _ _ c.site.ensures.number c.script.ensures (ap Ok c.in-Ok-Some.field-0-is) told in
    comes_back (λ r. g.R.Replica.seen r.replica) (λ r. r.whole) (λ r. r.version) v s.script s.site s.limit _ _ _ s b c.refill.result c.requires.new (consumed, header.1) header.0 c.refill.ensures.told

pub returns-in-Ok-None-clause-taken : goal.returns-in-Ok-None-clause-taken
returns-in-Ok-None-clause-taken g c =
    let s = g.R.Replica.seen c.args.replica in
    let (b, consumed, told) = c.in-Ok-None.ensures.told in
    cut_header s.script s.site s.limit _ _ s b c.requires.new consumed (header_as c.site.result c.script.result.now s b _ (Ok None) _ _ _ c.site.ensures.number c.script.ensures (ap Ok c.in-Ok-None.field-0-is) told)

pub returns-in-Err-clause-taken : goal.returns-in-Err-clause-taken
returns-in-Err-clause-taken g c =
    let s = g.R.Replica.seen c.args.replica in
    let old = input_of g.S.Source c.args.source.now in
    let new = input_of g.S.Source c.read_header.new.source in
    let (b, consumed, told) = c.in-Err.ensures.told in
    subst (λ (e : ReopenError). RetakesNot s old new e) (sym c.unread.ensures)
    (refused_header s.script s.site s.limit old new s c.in-Err.error b c.requires.new consumed (header_as c.site.result c.script.result.now s b _ (Err c.in-Err.error) _ _ _ c.site.ensures.number c.script.ensures refl told))
