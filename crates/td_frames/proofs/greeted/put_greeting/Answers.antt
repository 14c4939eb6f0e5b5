use Rattle.std.proofs.Common.{◌++◌, subst}
use Rattle.std.proofs.lemmas.Result.{err_from_is_err_and}
use Rattle.std.specs.Io.KnownBytes.{Appends}
use Rattle.td_io.specs.Streams.{AppendsFront}
use Rattle.td_frames.specs.Spelling.{head_frame, script_frame, vector_frame}
use Rattle.td_frames.proofs.Writing.{front_longer, front_after, writes_then}
use Rattle.td_frames.proofs.greeted.put_greeting.Goals as goal

pub returns-in_err-write_all-clause-bytes : goal.returns-in_err-write_all-clause-bytes
returns-in_err-write_all-clause-bytes g c =
    let p = err_from_is_err_and c.from_residual.result c.from_residual.ensures.1 in
    rw p.1 (front_longer _ _ (head_frame c.args.site) (script_frame c.args.script.now ++ vector_frame c.args.places.now) (subst (AppendsFront _ _) c.head_bytes.ensures c.in_err-write_all.ensures.bytes))

pub returns-in_err-put_script-clause-bytes : goal.returns-in_err-put_script-clause-bytes
returns-in_err-put_script-clause-bytes g c =
    let p = err_from_is_err_and c.from_residual-in_err-put_script.result c.from_residual-in_err-put_script.ensures.1 in
    let head = subst (Appends _ _) c.head_bytes.ensures c.in_ok-write_all.ensures.bytes in
    rw p.1 (front_after _ _ _ (head_frame c.args.site) (script_frame c.args.script.now ++ vector_frame c.args.places.now) head
    (front_longer _ _ (script_frame c.args.script.now) (vector_frame c.args.places.now) c.in_err-put_script.ensures.bytes))

pub returns-clause-bytes : goal.returns-clause-bytes
returns-clause-bytes g c =
    let head = subst (Appends _ _) c.head_bytes.ensures c.in_ok-write_all.ensures.bytes in
    writes_then _ _ _ c.put_vector.result (head_frame c.args.site) (script_frame c.args.script.now ++ vector_frame c.args.places.now) head
    (writes_then _ _ _ c.put_vector.result (script_frame c.args.script.now) (vector_frame c.args.places.now) c.in_ok-put_script.ensures.bytes c.put_vector.ensures.bytes)
