use Rattle.std.proofs.Common.{◌≡◌, ◌+◌, ◌++◌, get_or, take, drop, sym, subst}
use Rattle.std.proofs.lemmas.Result.{err_from_is_err_and}
use Rattle.std.specs.Int.{w16, to_be_bytes}
use Rattle.std.specs.List.{flat_map}
use Rattle.td_io.specs.Streams.{AppendsFront}
use Rattle.td_frames.proofs.Writing.{front_longer, front_after, all_of}
use Rattle.td_comparison.proofs.message.put_sites.Goals as goal

pub returns-in_err-write_all-clause-bytes : goal.returns-in_err-write_all-clause-bytes
returns-in_err-write_all-clause-bytes g c =
    let p = err_from_is_err_and c.from_residual.result c.from_residual.ensures.1 in
    let i = c.loop-site.site-index in
    let xs = c.args.sites.now in
    let f = to_be_bytes w16 in
    let is : c.to_be_bytes.result ≡ f (get_or xs i 0) = c.to_be_bytes.ensures in
    let so_far = front_after _ _ _ (flat_map f (take i xs)) (f (get_or xs i 0)) c.loop-site.invariant.bytes (subst (AppendsFront _ _) is c.in_err-write_all.ensures.bytes) in
    rw p.1 (subst (AppendsFront _ _) (sym (all_of f xs i 0 c.loop-site-test.true)) (front_longer _ _ (flat_map f (take i xs) ++ f (get_or xs i 0)) (flat_map f (drop (i + 1) xs)) so_far))
