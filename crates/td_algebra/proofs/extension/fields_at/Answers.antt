use Rattle.std.proofs.Common.{◌≡◌, List, ℕ, take, map, IfOk, sym, ◌∙◌, subst, arith}
use Rattle.std.proofs.lemmas.List.{take_all}
use Rattle.td_values.specs.Data.{Datum}
use Rattle.td_values.specs.Whole.{type_of}
use Rattle.td_algebra.specs.Raising.{AnswersBy}
use Rattle.td_algebra.specs.ForProofs.Gathered.{so_far, meaning_of}
use Rattle.td_tuples.specs.Items.{column_of}
use Rattle.td_algebra.specs.Extending.{Means, field_at, fields_at}
use Rattle.td_tuples.proofs.Filters.{mapped_more}
use Rattle.td_algebra.proofs.Walks.{all_more_at, all_done, at_item, says_meaning, listed_more, finished}
use Rattle.td_algebra.proofs.extension.fields_at.Goals as goal

pub loop-item-preserved : goal.loop-item-preserved
loop-item-preserved g c =
    let items = c.args.items.now in
    let t = c.args.tuple.now in
    let i = c.loop-item.item-index in
    let x = c.item-item.result in
    let s = so_far c.loop-item.gathered.answers.items c.loop-item.gathered.least in
    let within = c.loop-item-test.true in
    let is = c.item-item.is in (
      λ m means.
          let a = c.field_at.ensures.means m (at_item (λ j. Means (λ p q. g.F.Fn.post c.args.f.now (p, (q, tt))) m j.term t) items i x within is means) in
          rw (c.in_ok-note.ensures.noted (field_at m t x) a) (sym (all_more_at (field_at m t) s items i x within is) ∙ c.loop-item.invariant.0 m means),
      rw (c.in_ok-note.ensures.noted (meaning_of c.field_at.result) (says_meaning c.field_at.result), sym (mapped_more column_of items i x within is))
          (listed_more (λ (y : List ℕ × Datum). (y.0, type_of y.1)) (map column_of (take i items)) (column_of x) s c.field_at.result c.loop-item.invariant.1 c.field_at.ensures.typed),
    )

pub returns-clause-means : goal.returns-clause-means
returns-clause-means g c = λ m means.
    let items = c.args.items.now in
    let t = c.args.tuple.now in
    subst (AnswersBy (λ v. v.items) c.finish.result) (all_done (field_at m t) (so_far c.loop-item.gathered.answers.items c.loop-item.gathered.least) items c.loop-item.item-index (fields_at m items t) (omega (arith, c.loop-item-test.false)) (c.loop-item.invariant.0 m means)) c.finish.ensures.whole

pub returns-clause-typed : goal.returns-clause-typed
returns-clause-typed g c =
    let items = c.args.items.now in
    let all = take_all c.loop-item.item-index items (omega (arith, c.loop-item-test.false)) in
    finished (λ v. v.items) (λ xs. map (λ (y : List ℕ × Datum). (y.0, type_of y.1)) xs ≡ map column_of items) c.finish.result (so_far c.loop-item.gathered.answers.items c.loop-item.gathered.least) c.finish.ensures.whole
    (subst (λ js. IfOk (so_far c.loop-item.gathered.answers.items c.loop-item.gathered.least) (λ xs. map (λ (y : List ℕ × Datum). (y.0, type_of y.1)) xs ≡ map column_of js)) all (c.loop-item.invariant.1))
