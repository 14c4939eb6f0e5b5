use Rattle.std.proofs.Common.{rules, ◌≡◌, ◌∷◌, subst}
use Rattle.std.proofs.lemmas.Result.{err_from_is_err_and}
use Rattle.std.specs.Io.KnownBytes.{Appends}
use Rattle.td_io.specs.Streams.{AppendsFront, Writes}
use Rattle.td_frames.specs.Spelling.{head_of}
use Rattle.td_frames.specs.declared.version.Version.TheVariants.{Second}
use Rattle.td_frames.proofs.Writing.{front_longer, writes_then}
use Rattle.td_frames.proofs.entries.put_entry.Goals as goal

pub returns-in_err-write_all-clause-bytes : goal.returns-in_err-write_all-clause-bytes
returns-in_err-write_all-clause-bytes g c =
    let p = err_from_is_err_and c.from_residual.result c.from_residual.ensures.1 in
    let head : c.head_bytes-head.result ≡ 69 ∷ head_of Second c.args.entry.now = search rules in
    rw p.1 (front_longer _ _ (69 ∷ head_of Second c.args.entry.now) c.args.entry.now.text (subst (AppendsFront _ _) head c.in_err-write_all.ensures.bytes))

pub returns-clause-bytes : goal.returns-clause-bytes
returns-clause-bytes g c =
    let head : c.head_bytes-head.result ≡ 69 ∷ head_of Second c.args.entry.now = search rules in
    let text : c.as_bytes-text.result.now ≡ c.args.entry.now.text = search rules in
    writes_then _ _ _ c.write_all-2.result (69 ∷ head_of Second c.args.entry.now) c.args.entry.now.text (subst (Appends _ _) head c.in_ok-write_all.ensures.bytes) (subst (Writes _ _ c.write_all-2.result) text c.write_all-2.ensures.bytes)
