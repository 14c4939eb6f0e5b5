use Rattle.std.proofs.Common.{◌∙◌, sym, subst, arith}
use Rattle.std.specs.List.{All}
use Rattle.td_tuples.specs.Parts.{Fits}
use Rattle.td_algebra.specs.Raising.{AnswersBy, all_of}
use Rattle.td_algebra.specs.ForProofs.Gathered.{so_far, meaning_of}
use Rattle.td_tuples.specs.Items.{extended_columns}
use Rattle.td_algebra.specs.Extending.{Means, extended_at}
use Rattle.td_algebra.proofs.Walks.{all_more_at, all_done, at_item, says_meaning, each_more, finished}
use Rattle.td_algebra.proofs.extension.extend_tuples.Goals as goal

pub loop-tuple-preserved : goal.loop-tuple-preserved
loop-tuple-preserved g c =
    let items = c.args.items.now in
    let ts = c.args.tuples.now in
    let i = c.loop-tuple.tuple-index in
    let t = c.tuple-item.result in
    let s = so_far c.loop-tuple.gathered.answers.items c.loop-tuple.gathered.least in
    let within = c.loop-tuple-test.true in
    let is = c.tuple-item.is in (
      λ m means.
          let a = c.extend_tuple.ensures.means m (at_item (λ u. All (λ j. Means (λ p q. g.F.Fn.post c.args.f.now (p, (q, tt))) m j.term u) items) ts i t within is means) in
          rw (c.in_ok-note.ensures.noted (extended_at m items t) a) (sym (all_more_at (extended_at m items) s ts i t within is) ∙ c.loop-tuple.invariant.0 m means),
      λ h fits.
          let a = c.extend_tuple.ensures.typed h (at_item (Fits h) ts i t within is fits) in
          rw (c.in_ok-note.ensures.noted (meaning_of c.extend_tuple.result) (says_meaning c.extend_tuple.result)) (each_more (Fits (extended_columns items h)) s c.extend_tuple.result (c.loop-tuple.invariant.1 h fits) a),
    )

pub returns-clause-means : goal.returns-clause-means
returns-clause-means g c = λ m means.
    let items = c.args.items.now in
    let ts = c.args.tuples.now in
    subst (AnswersBy (λ v. v.items) c.finish.result) (all_done (extended_at m items) (so_far c.loop-tuple.gathered.answers.items c.loop-tuple.gathered.least) ts c.loop-tuple.tuple-index (all_of (extended_at m items) ts) (omega (arith, c.loop-tuple-test.false)) (c.loop-tuple.invariant.0 m means)) c.finish.ensures.whole

pub returns-clause-typed : goal.returns-clause-typed
returns-clause-typed g c = λ h fits.
    finished (λ v. v.items) (All (Fits (extended_columns c.args.items.now h))) c.finish.result (so_far c.loop-tuple.gathered.answers.items c.loop-tuple.gathered.least) c.finish.ensures.whole (c.loop-tuple.invariant.1 h fits)
