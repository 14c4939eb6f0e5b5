use Rattle.std.proofs.Common.{◌+◌, ◌++◌, get_or, take, drop, sym, subst}
use Rattle.std.proofs.lemmas.Result.{err_from_is_err_and}
use Rattle.std.specs.List.{flat_map}
use Rattle.td_io.specs.Streams.{AppendsFront}
use Rattle.td_frames.proofs.Writing.{front_longer, front_after, all_of}
use Rattle.td_comparison.specs.Messages.{line_frame}
use Rattle.td_comparison.proofs.message.put_lines.Goals as goal

pub returns-in_err-put_line-clause-bytes : goal.returns-in_err-put_line-clause-bytes
returns-in_err-put_line-clause-bytes g c =
    let p = err_from_is_err_and c.from_residual.result c.from_residual.ensures.1 in
    let i = c.loop-digest.digest-index in
    let xs = c.args.digests.now in
    let h = c.in_err-put_line.ensures.bytes in
    let f = line_frame in
    let so_far = front_after _ _ _ (flat_map f (take i xs)) (f (get_or xs i _)) c.loop-digest.invariant.bytes c.in_err-put_line.ensures.bytes in
    rw p.1 (subst (AppendsFront _ _) (sym (all_of f xs i _ c.loop-digest-test.true)) (front_longer _ _ (flat_map f (take i xs) ++ f (get_or xs i _)) (flat_map f (drop (i + 1) xs)) so_far))
