use Rattle.std.proofs.Common.{◌++◌, subst}
use Rattle.std.proofs.lemmas.Result.{err_from_is_err_and}
use Rattle.std.specs.Int.{w16, to_be_bytes}
use Rattle.std.specs.Io.KnownBytes.{Appends}
use Rattle.td_io.specs.Streams.{AppendsFront}
use Rattle.td_frames.proofs.Writing.{front_longer, front_after, writes_then}
use Rattle.td_comparison.specs.Messages.{digests_frame, comparison_letters}
use Rattle.td_comparison.proofs.message.put_comparison.Goals as goal

pub returns-in_err-write_all-clause-bytes : goal.returns-in_err-write_all-clause-bytes
returns-in_err-write_all-clause-bytes g c =
    let p = err_from_is_err_and c.from_residual.result c.from_residual.ensures.1 in
    rw p.1 (front_longer _ _ (comparison_letters ++ to_be_bytes w16 c.args.site) (c.args.script.now ++ digests_frame c.args.digests.now) (subst (AppendsFront _ _) c.head_bytes.ensures c.in_err-write_all.ensures.bytes))

pub returns-in_err-write_all-2-clause-bytes : goal.returns-in_err-write_all-2-clause-bytes
returns-in_err-write_all-2-clause-bytes g c =
    let p = err_from_is_err_and c.from_residual-in_err-write_all-2.result c.from_residual-in_err-write_all-2.ensures.1 in
    let head = subst (Appends _ _) c.head_bytes.ensures c.in_ok-write_all.ensures.bytes in
    rw p.1 (front_after _ _ _ (comparison_letters ++ to_be_bytes w16 c.args.site) (c.args.script.now ++ digests_frame c.args.digests.now) head
    (front_longer _ _ c.args.script.now (digests_frame c.args.digests.now) c.in_err-write_all-2.ensures.bytes))

pub returns-clause-bytes : goal.returns-clause-bytes
returns-clause-bytes g c =
    let head = subst (Appends _ _) c.head_bytes.ensures c.in_ok-write_all.ensures.bytes in
    writes_then _ _ _ c.put_digests.result (comparison_letters ++ to_be_bytes w16 c.args.site) (c.args.script.now ++ digests_frame c.args.digests.now) head
    (writes_then _ _ _ c.put_digests.result c.args.script.now (digests_frame c.args.digests.now) c.in_ok-write_all-2.ensures.bytes c.put_digests.ensures.bytes)
