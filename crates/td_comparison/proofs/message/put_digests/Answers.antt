use Rattle.std.proofs.Common.{rules, ◌≡◌, length, subst}
use Rattle.std.proofs.lemmas.Result.{err_from_is_err_and}
use Rattle.std.specs.Int.{w32, to_be_bytes}
use Rattle.std.specs.List.{flat_map}
use Rattle.std.specs.Io.KnownBytes.{Appends}
use Rattle.td_io.specs.Streams.{AppendsFront}
use Rattle.td_frames.proofs.Writing.{front_longer, writes_then}
use Rattle.td_comparison.specs.Messages.{line_frame}
use Rattle.td_comparison.proofs.message.put_digests.Goals as goal

pub returns-in_err-write_all-clause-bytes : goal.returns-in_err-write_all-clause-bytes
returns-in_err-write_all-clause-bytes g c =
    let ds = c.args.digests.now in
    let p = err_from_is_err_and c.from_residual.result c.from_residual.ensures.1 in
    let count : c.to_be_bytes.result ≡ to_be_bytes w32 (length ds) = search rules in
    rw p.1 (front_longer _ _ (to_be_bytes w32 (length ds)) (flat_map line_frame ds) (subst (AppendsFront _ _) count c.in_err-write_all.ensures.bytes))

pub returns-clause-bytes : goal.returns-clause-bytes
returns-clause-bytes g c =
    let ds = c.args.digests.now in
    let count : c.to_be_bytes.result ≡ to_be_bytes w32 (length ds) = search rules in
    writes_then _ _ _ c.put_lines.result (to_be_bytes w32 (length ds)) (flat_map line_frame ds) (subst (Appends _ _) count c.in_ok-write_all.ensures.bytes) c.put_lines.ensures.bytes
