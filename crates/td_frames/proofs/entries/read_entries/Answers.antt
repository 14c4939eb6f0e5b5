use Rattle.std.proofs.Common.{◌≡◌, ◌-◌, ◌+◌, [], ◌∷◌, ◌++◌, ap, ◌∙◌, Ok, Err, Some, None}
use Rattle.std.proofs.KnownBytes.{Consumes-trans, Keeps-trans}
use Rattle.std.proofs.Common.{Option}
use Rattle.td_stamps.specs.declared.entry.Entry.{Entry}
use Rattle.td_frames.specs.Reading.{Miss, end_at, frame_at, entries_at, with_frame, last_frame}
use Rattle.td_frames.proofs.Loops.{goes_on, stops, closes, told_entries}
use Rattle.td_frames.proofs.entries.read_entries.Goals as goal

pub returns-in-Err-clause-told : goal.returns-in-Err-clause-told
returns-in-Err-clause-told g c =
    let (done, taken, so_far) = c.loop.invariant.told in
    let (bytes, more, told) = c.in-Err.ensures.told in
    let front = c.loop.entries.items in
    let i = c.loop.counter in
    let same = λ (m : Miss) (e : frame_at c.args.version bytes ≡ Err m). stops c.args.version c.args.most i front done bytes (Err m) c.loop-test.true (ap (with_frame (entries_at c.args.version (c.args.most - (i + 1)))) e) so_far in
    (done ++ bytes, Consumes-trans _ _ _ _ _ taken more, rw (← c.loop.invariant.count) (told_entries c.in-Err.e front (frame_at c.args.version bytes) (entries_at c.args.version c.args.most (done ++ bytes)) _ _ _ same told))

pub returns-in-Ok-None-clause-told : goal.returns-in-Ok-None-clause-told
returns-in-Ok-None-clause-told g c =
    let (done, taken, so_far) = c.loop.invariant.told in
    let (bytes, more, told) = c.in-Ok-None.ensures.told in
    let i = c.loop.counter in
    let read : frame_at c.args.version bytes ≡ Ok (None, []) = told.0 ∙ ap (λ (o : Option Entry). Ok (o, [])) c.in-Ok-None.field-0-is in
    (done ++ bytes, Consumes-trans _ _ _ _ _ taken more, (stops c.args.version c.args.most i c.loop.entries.items done bytes (Ok []) c.loop-test.true (ap (with_frame (entries_at c.args.version (c.args.most - (i + 1)))) read) so_far, told.1 ∙ c.loop.invariant.count))

pub returns-in-Err-push-clause-told : goal.returns-in-Err-push-clause-told
returns-in-Err-push-clause-told g c =
    let (done, taken, so_far) = c.loop.invariant.told in
    let (bytes, more, told) = c.in-Ok-Some.ensures.told in
    (done ++ bytes, Consumes-trans _ _ _ _ _ taken more, told.1 ∙ c.loop.invariant.count)

pub loop-preserved : goal.loop-preserved
loop-preserved g c =
    let (done, taken, so_far) = c.loop.invariant.told in
    let (bytes, more, told) = c.in-Ok-Some.ensures.told in
    let item = c.in-Ok-Some.entry in
    let read : frame_at c.args.version bytes ≡ Ok (Some item, []) = told.0 ∙ ap (λ (o : Option Entry). Ok (o, [])) c.in-Ok-Some.field-0-is in
    let grown : c.push.new.self.items ≡ c.loop.entries.items ++ item ∷ [] = c.in-Ok.ensures.items in
    record {
      told = (done ++ bytes, Consumes-trans _ _ _ _ _ taken more, rw grown (goes_on c.args.version c.args.most c.loop.counter c.loop.entries.items done bytes item c.loop-test.true read so_far));
      beside = Keeps-trans _ _ _ c.loop.invariant.beside c.in-Ok-Some.ensures.beside;
      count = told.1 ∙ c.loop.invariant.count;
    }

pub returns-in-Err-read_end-clause-told : goal.returns-in-Err-read_end-clause-told
returns-in-Err-read_end-clause-told g c =
    let (done, taken, so_far) = c.loop.invariant.told in
    let (bytes, more, told) = c.in-Err-read_end.ensures.told in
    let front = c.loop.entries.items in
    let i = c.loop.counter in
    let same = λ (m : Miss) (e : end_at bytes ≡ Err m). closes c.args.version c.args.most c.loop.counter front done bytes (Err m) c.loop-test.false (ap last_frame e) so_far in
    (done ++ bytes, Consumes-trans _ _ _ _ _ taken more, rw (← c.loop.invariant.count) (told_entries c.in-Err-read_end.e front (end_at bytes) (entries_at c.args.version c.args.most (done ++ bytes)) _ _ _ same told))

pub returns-in-Ok-read_end-clause-told : goal.returns-in-Ok-read_end-clause-told
returns-in-Ok-read_end-clause-told g c =
    let (done, taken, so_far) = c.loop.invariant.told in
    let (bytes, more, told) = c.in-Ok-read_end.ensures.told in
    (done ++ bytes, Consumes-trans _ _ _ _ _ taken more, (closes c.args.version c.args.most c.loop.counter c.loop.entries.items done bytes (Ok []) c.loop-test.false (ap last_frame told.0) so_far, told.1 ∙ c.loop.invariant.count))
