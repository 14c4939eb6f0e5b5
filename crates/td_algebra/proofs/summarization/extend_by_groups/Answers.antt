use Rattle.std.proofs.Common.{◌∙◌, sym, subst, arith}
use Rattle.std.specs.List.{All}
use Rattle.std.proofs.lemmas.List.Elements.{All-filter}
use Rattle.td_values.specs.Data.{Attrs}
use Rattle.td_tuples.specs.Items.{extended_columns}
use Rattle.td_tuples.specs.Parts.{Fits}
use Rattle.td_algebra.specs.Raising.{Answers, AnswersBy, all_of}
use Rattle.td_algebra.specs.ForProofs.Gathered.{so_far, meaning_of}
use Rattle.td_algebra.specs.ForProofs.Index.{found}
use Rattle.td_algebra.specs.ForProofs.Places.{has_values, values_at}
use Rattle.td_algebra.specs.Extending.{TakesBoth, Means, extended_at}
use Rattle.td_algebra.specs.Summaries.{OfTerm, summary_over}
use Rattle.td_algebra.proofs.Walks.{all_more_at, all_done, at_item, says_meaning, each_more, finished}
use Rattle.td_algebra.proofs.summarization.extend_by_groups.Goals as goal

pub extend_by_group-requires : goal.extend_by_group-requires
extend_by_group-requires g c =
    let x = c.args.groups.now in
    let P : Attrs → Type 0 = λ t. All (λ i. OfTerm (λ e. TakesBoth (λ p q. g.F.Fn.pre c.args.f.now (p, (q, tt))) e t) i.term) c.args.items.now in
    subst (All P) (sym c.run_near-end.ensures) (All-filter (has_values x.places.items (values_at x.others.items c.tuple-item.result)) P x.tuples.items c.requires)

pub loop-tuple-preserved : goal.loop-tuple-preserved
loop-tuple-preserved g c =
    let items = c.args.items.now in
    let ts = c.args.tuples.now in
    let x = c.args.groups.now in
    let i = c.loop-tuple.tuple-index in
    let t = c.tuple-item.result in
    let s = so_far c.loop-tuple.gathered.answers.items c.loop-tuple.gathered.least in
    let within = c.loop-tuple-test.true in
    let is = c.tuple-item.is in (
      λ m means.
          let P : Attrs → Type 0 = λ u. All (λ j. OfTerm (λ e. Means (λ p q. g.F.Fn.post c.args.f.now (p, (q, tt))) m e u) j.term) items in
          let at : Attrs → _ = λ u. extended_at (λ s v. summary_over m (found x u) s) items u in
          let group = subst (All P) (sym c.run_near-end.ensures) (All-filter (has_values x.places.items (values_at x.others.items t)) P x.tuples.items means) in
          let a = subst (λ us. Answers c.extend_by_group.result (extended_at (λ s v. summary_over m us s) items t)) c.run_near-end.ensures (c.extend_by_group.ensures.means m group) in
          rw (c.in_ok-note.ensures.noted (at t) a) (sym (all_more_at at s ts i t within is) ∙ c.loop-tuple.invariant.0 m means),
      λ h fits.
          let a = c.extend_by_group.ensures.typed h (at_item (Fits h) ts i t within is fits) in
          rw (c.in_ok-note.ensures.noted (meaning_of c.extend_by_group.result) (says_meaning c.extend_by_group.result)) (each_more (Fits (extended_columns items h)) s c.extend_by_group.result (c.loop-tuple.invariant.1 h fits) a),
    )

pub returns-clause-means : goal.returns-clause-means
returns-clause-means g c = λ m means.
    let items = c.args.items.now in
    let ts = c.args.tuples.now in
    let at : Attrs → _ = λ u. extended_at (λ s v. summary_over m (found c.args.groups.now u) s) items u in
    subst (AnswersBy (λ v. v.items) c.finish.result) (all_done at (so_far c.loop-tuple.gathered.answers.items c.loop-tuple.gathered.least) ts c.loop-tuple.tuple-index (all_of at ts) (omega (arith, c.loop-tuple-test.false)) (c.loop-tuple.invariant.0 m means)) c.finish.ensures.whole

pub returns-clause-typed : goal.returns-clause-typed
returns-clause-typed g c = λ h fits.
    finished (λ v. v.items) (All (Fits (extended_columns c.args.items.now h))) c.finish.result (so_far c.loop-tuple.gathered.answers.items c.loop-tuple.gathered.least) c.finish.ensures.whole (c.loop-tuple.invariant.1 h fits)
