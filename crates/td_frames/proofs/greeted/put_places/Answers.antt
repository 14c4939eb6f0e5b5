use Rattle.std.proofs.Common.{rules, ◌≡◌, ◌+◌, ℕ, List, ◌++◌, get_or, take, drop, sym, subst}
use Rattle.std.proofs.lemmas.Result.{err_from_is_err_and}
use Rattle.std.proofs.lemmas.List.{take_all}
use Rattle.std.specs.List.{flat_map}
use Rattle.std.specs.Io.KnownBytes.{Appends}
use Rattle.std.proofs.KnownBytes.{Appends-trans, Keeps-trans}
use Rattle.td_io.specs.Streams.{AppendsFront}
use Rattle.td_frames.specs.Spelling.{place}
use Rattle.td_frames.proofs.Writing.{front_longer, front_after, more_of, all_of}
use Rattle.td_frames.proofs.greeted.put_places.Goals as goal

pub returns-in_err-write_all-clause-bytes : goal.returns-in_err-write_all-clause-bytes
returns-in_err-write_all-clause-bytes g c =
    let p = err_from_is_err_and c.from_residual.result c.from_residual.ensures.1 in
    let i = c.loop-place.place-index in
    let xs = c.args.places.now in
    let is : c.place_bytes.result ≡ place (get_or xs i (0, 0)) = c.place_bytes.ensures in
    let so_far = front_after _ _ _ (flat_map place (take i xs)) (place (get_or xs i (0, 0))) c.loop-place.invariant.bytes (subst (AppendsFront _ _) is c.in_err-write_all.ensures.bytes) in
    rw p.1 (subst (AppendsFront _ _) (sym (all_of place xs i (0, 0) c.loop-place-test.true)) (front_longer _ _ (flat_map place (take i xs) ++ place (get_or xs i (0, 0))) (flat_map place (drop (i + 1) xs)) so_far))

pub loop-place-preserved : goal.loop-place-preserved
loop-place-preserved g c =
    let l = c.loop-place in
    let i = l.place-index in
    let xs = c.args.places.now in
    let is : c.place_bytes.result ≡ place (get_or xs i (0, 0)) = c.place_bytes.ensures in
    record {
      bytes = subst (Appends _ _) (sym (more_of place xs i (0, 0) c.loop-place-test.true)) (Appends-trans _ _ _ _ _ l.invariant.bytes (subst (Appends _ _) is c.in_ok-write_all.ensures.bytes));
      aside = Keeps-trans _ _ _ l.invariant.aside c.in_ok-write_all.ensures.aside;
      count = search rules;
    }

pub returns-clause-bytes : goal.returns-clause-bytes
returns-clause-bytes g c =
    let all = take_all c.loop-place.place-index c.args.places.now c.loop-place-test.false in
    subst (λ (ps : List (ℕ × ℕ)). Appends (g.K.Sink.held c.args.sink.now) (g.K.Sink.held c.loop-place.sink) (flat_map place ps)) all c.loop-place.invariant.bytes
