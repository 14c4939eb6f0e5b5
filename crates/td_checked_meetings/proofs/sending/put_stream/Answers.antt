use Rattle.std.proofs.Common.{List, ap, subst}
use Rattle.std.specs.Io.KnownBytes.{Appends}
use Rattle.td_io.specs.Streams.{AppendsFront}
use Rattle.td_stamps.specs.declared.entry.Entry.{Entry}
use Rattle.std.proofs.lemmas.Result.{err_from_is_err_and}
use Rattle.td_frames.specs.Spelling.{end_frame, entry_frames}
use Rattle.td_frames.proofs.Writing.{front_longer, writes_then}
use Rattle.td_frames.specs.declared.version.Version.TheVariants.{Second}
use Rattle.td_checked_meetings.specs.Scopes.{sent}
use Rattle.td_checked_meetings.proofs.sending.put_stream.Goals as goal

pub returns-in_err-put_entries-clause-bytes : goal.returns-in_err-put_entries-clause-bytes
returns-in_err-put_entries-clause-bytes g c =
    let p = err_from_is_err_and c.from_residual.result c.from_residual.ensures.1 in
    let s = c.args.scope.now in
    let f = λ (es : List Entry). entry_frames Second (sent s.left_out.items s.vector c.args.vector.now es) in
    rw p.1 (front_longer _ _ (f c.args.held.now.entries) end_frame (subst (AppendsFront _ _) (ap f c.entries.ensures.entries) c.in_err-put_entries.ensures.bytes))

pub returns-clause-bytes : goal.returns-clause-bytes
returns-clause-bytes g c =
    let s = c.args.scope.now in
    let f = λ (es : List Entry). entry_frames Second (sent s.left_out.items s.vector c.args.vector.now es) in
    writes_then _ _ _ c.put_end.result (f c.args.held.now.entries) end_frame (subst (Appends _ _) (ap f c.entries.ensures.entries) c.in_ok-put_entries.ensures.bytes) c.put_end.ensures.bytes
