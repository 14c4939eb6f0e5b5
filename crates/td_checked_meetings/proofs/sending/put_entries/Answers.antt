use Rattle.std.proofs.Common.{rules, ◌+◌, ◌∙◌, List, [], ◌∷◌, ◌++◌, get_or, take, drop, sym, ap, subst}
use Rattle.std.proofs.lemmas.Result.{err_from_is_err_and}
use Rattle.std.proofs.lemmas.List.{take_all}
use Rattle.std.specs.List.{AllByRecursion, flat_map}
use Rattle.std.specs.Io.KnownBytes.{Appends}
use Rattle.std.proofs.KnownBytes.{Appends-trans, Keeps-trans}
use Rattle.td_io.specs.Streams.{AppendsFront}
use Rattle.td_stamps.specs.declared.entry.Entry.{Entry}
use Rattle.td_frames.specs.Spelling.{HasFrame}
use Rattle.td_frames.proofs.Writing.{front_longer, front_after, more_of, all_of}
use Rattle.td_frames.specs.declared.version.Version.TheVariants.{Second}
use Rattle.td_checked_meetings.specs.Scopes.{sent}
use Rattle.td_checked_meetings.proofs.Kept.{frames_of, frames_each, framed_more}
use Rattle.td_checked_meetings.proofs.sending.put_entries.Goals as goal

pub returns-in_err-put_kept-clause-bytes : goal.returns-in_err-put_kept-clause-bytes
returns-in_err-put_kept-clause-bytes g c =
    let p = err_from_is_err_and c.from_residual.result c.from_residual.ensures.1 in
    let i = c.loop-entry.entry-index in
    let xs = c.args.entries.now in
    let s = c.args.scope.now in
    let f = frames_of s.left_out.items s.vector c.args.vector.now in
    let e = c.entry-item.result in
    let so_far = front_after _ _ _ (flat_map f (take i xs)) (f (get_or xs i e)) c.loop-entry.invariant.bytes (subst (AppendsFront _ _) (ap f c.entry-item.is) c.in_err-put_kept.ensures.bytes) in
    rw p.1 (subst (AppendsFront _ _) (sym (all_of f xs i e c.loop-entry-test.true) ∙ frames_each s.left_out.items s.vector c.args.vector.now xs) (front_longer _ _ (flat_map f (take i xs) ++ f (get_or xs i e)) (flat_map f (drop (i + 1) xs)) so_far))

pub loop-entry-preserved : goal.loop-entry-preserved
loop-entry-preserved g c =
    let l = c.loop-entry in
    let i = l.entry-index in
    let xs = c.args.entries.now in
    let s = c.args.scope.now in
    let v = c.args.vector.now in
    let f = frames_of s.left_out.items s.vector v in
    let e = c.entry-item.result in
    record {
      bytes = subst (Appends _ _) (sym (more_of f xs i e c.loop-entry-test.true)) (Appends-trans _ _ _ _ _ l.invariant.bytes (subst (Appends _ _) (ap f c.entry-item.is) c.in_ok-put_kept.ensures.bytes));
      has = framed_more s.left_out.items s.vector v xs i e c.loop-entry-test.true l.invariant.has
          (subst (λ (x : Entry). AllByRecursion (HasFrame Second) (sent s.left_out.items s.vector v (x ∷ []))) c.entry-item.is c.in_ok-put_kept.ensures.has);
      aside = Keeps-trans _ _ _ l.invariant.aside c.in_ok-put_kept.ensures.aside;
      count = search rules;
    }

pub returns-clause-bytes : goal.returns-clause-bytes
returns-clause-bytes g c =
    let all = take_all c.loop-entry.entry-index c.args.entries.now c.loop-entry-test.false in
    let s = c.args.scope.now in
    let v = c.args.vector.now in
    let f = frames_of s.left_out.items s.vector v in
    subst (Appends (g.K.Sink.held c.args.sink.now) (g.K.Sink.held c.loop-entry.sink)) (frames_each s.left_out.items s.vector v c.args.entries.now)
    (subst (λ (xs : List Entry). Appends (g.K.Sink.held c.args.sink.now) (g.K.Sink.held c.loop-entry.sink) (flat_map f xs)) all c.loop-entry.invariant.bytes)

pub returns-clause-has : goal.returns-clause-has
returns-clause-has g c =
    let all = take_all c.loop-entry.entry-index c.args.entries.now c.loop-entry-test.false in
    let s = c.args.scope.now in
    subst (λ (xs : List Entry). AllByRecursion (HasFrame Second) (sent s.left_out.items s.vector c.args.vector.now xs)) all c.loop-entry.invariant.has
