use Rattle.std.proofs.Common.{rules, ◌≡◌, ◌∷◌, ◌++◌, codes, length, subst}
use Rattle.std.proofs.lemmas.Result.{err_from_is_err_and}
use Rattle.std.specs.Int.{w16, w32, to_be_bytes}
use Rattle.std.specs.Io.KnownBytes.{Appends}
use Rattle.td_io.specs.Streams.{AppendsFront, Writes}
use Rattle.td_frames.proofs.Writing.{front_longer, writes_then}
use Rattle.td_journal.proofs.frames.put_header.Goals as goal

pub returns-in_err-write_all-clause-bytes : goal.returns-in_err-write_all-clause-bytes
returns-in_err-write_all-clause-bytes g c =
    let p = err_from_is_err_and c.from_residual.result c.from_residual.ensures.1 in
    let s = c.args.script.now in
    let front = codes "JTDB" ++ 2 ∷ (to_be_bytes w16 c.args.site ++ to_be_bytes w32 (length s)) in
    let head : c.head_bytes.result ≡ front = search rules in
    rw p.1 (front_longer _ _ front s (subst (AppendsFront _ _) head c.in_err-write_all.ensures.bytes))

pub returns-clause-bytes : goal.returns-clause-bytes
returns-clause-bytes g c =
    let s = c.args.script.now in
    let front = codes "JTDB" ++ 2 ∷ (to_be_bytes w16 c.args.site ++ to_be_bytes w32 (length s)) in
    let head : c.head_bytes.result ≡ front = search rules in
    let text : c.as_bytes.result.now ≡ s = search rules in
    writes_then _ _ _ c.write_all-2.result front s (subst (Appends _ _) head c.in_ok-write_all.ensures.bytes) (subst (Writes _ _ c.write_all-2.result) text c.write_all-2.ensures.bytes)
