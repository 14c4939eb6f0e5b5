use Rattle.std.proofs.Common.{◌++◌, subst}
use Rattle.std.proofs.lemmas.Result.{err_from_is_err_and}
use Rattle.std.specs.Int.{w16, w32, to_be_bytes}
use Rattle.std.specs.Io.KnownBytes.{Appends}
use Rattle.td_io.specs.Streams.{AppendsFront}
use Rattle.td_frames.proofs.Writing.{front_longer, writes_then}
use Rattle.td_comparison.proofs.message.put_line.Goals as goal

pub returns-in_err-write_all-clause-bytes : goal.returns-in_err-write_all-clause-bytes
returns-in_err-write_all-clause-bytes g c =
    let d = c.args.digest.now in
    let p = err_from_is_err_and c.from_residual.result c.from_residual.ensures.1 in
    rw p.1 (front_longer _ _ (to_be_bytes w16 d.site ++ to_be_bytes w32 d.number) d.digest (subst (AppendsFront _ _) c.place_bytes.ensures c.in_err-write_all.ensures.bytes))

pub returns-clause-bytes : goal.returns-clause-bytes
returns-clause-bytes g c =
    let d = c.args.digest.now in
    writes_then _ _ _ c.write_all-2.result (to_be_bytes w16 d.site ++ to_be_bytes w32 d.number) d.digest (subst (Appends _ _) c.place_bytes.ensures c.in_ok-write_all.ensures.bytes) c.write_all-2.ensures.bytes
