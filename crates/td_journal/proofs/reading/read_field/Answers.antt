use Rattle.std.proofs.Common.{[], ◌∷◌, ◌++◌, false, cond, Ok, Err, refl, sym, subst, ◌∙◌, append-nil}
use Rattle.std.specs.Io.KnownBytes.{Consumes}
use Rattle.std.proofs.KnownBytes.{Consumes-trans, Keeps-trans}
use Rattle.std.proofs.lemmas.List.{drop_all}
use Rattle.td_journal.specs.declared.reading.Unread.TheVariants.{Refused}
use Rattle.td_journal.proofs.Fields.{agrees_on, field_as, field_cut, field_whole}
use Rattle.td_journal.proofs.reading.read_field.Goals as goal

pub returns-in-Ok-None-clause-told : goal.returns-in-Ok-None-clause-told
returns-in-Ok-None-clause-told g c =
    let (done, taken, so_far) = c.loop-byte.invariant.told in
    let (last, end) = rw c.in-Ok-None.field-0-is at c.in-Ok-None.ensures.byte in
    let f = c.args.field.now in
    let all = subst (Consumes (g.S.Source.left c.args.source.now) (g.S.Source.left c.read_byte.new.source)) (append-nil done) (Consumes-trans _ _ _ _ _ taken last) in
    let told = field_cut f c.args.error done c.loop-byte.byte-index 0 c.loop-byte.same (g.S.Source.left c.read_byte.new.source) (g.S.Source.failures c.args.source.now) (g.S.Source.failures c.read_byte.new.source) c.loop-byte-test.true so_far end (c.in-Ok-None.ensures.count ∙ c.loop-byte.invariant.count) in
    (done, all, field_as f f c.args.error done (cond c.loop-byte.same (Ok false) (Err (Refused c.args.error))) c.judge_field.result (g.S.Source.left c.read_byte.new.source) (g.S.Source.failures c.args.source.now) (g.S.Source.failures c.read_byte.new.source) refl (sym c.judge_field.ensures) told)

pub loop-byte-preserved : goal.loop-byte-preserved
loop-byte-preserved g c =
    let (done, taken, so_far) = c.loop-byte.invariant.told in
    let read = c.in-Ok-Some.read in
    record {
      told = (
        done ++ read ∷ [],
        Consumes-trans _ _ _ _ _ taken (rw c.in-Ok-Some.field-0-is at c.in-Ok-Some.ensures.byte),
        agrees_on c.args.field.now c.args.error done c.loop-byte.byte-index read 0 _ c.loop-byte.same c.is_still_same-same.result c.loop-byte-test.true refl c.is_still_same-same.ensures so_far,
      );
      beside = Keeps-trans _ _ _ c.loop-byte.invariant.beside c.in-Ok-Some.ensures.beside;
      count = c.in-Ok-Some.ensures.count ∙ c.loop-byte.invariant.count;
    }

pub returns-clause-told : goal.returns-clause-told
returns-clause-told g c =
    let (done, taken, so_far) = c.loop-byte.invariant.told in
    let f = c.args.field.now in
    let told = field_whole f c.args.error done c.loop-byte.byte-index c.loop-byte.same _ _ _ (drop_all c.loop-byte.byte-index f c.loop-byte-test.false) so_far c.loop-byte.invariant.count in
    (done, taken, field_as f f c.args.error done _ c.judge_field-2.result _ _ _ refl (sym c.judge_field-2.ensures) told)
