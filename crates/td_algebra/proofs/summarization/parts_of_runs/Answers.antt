use Rattle.std.proofs.Common.{◌≡◌, ◌++◌, ◌∷◌, [], ◌+◌, ◌-◌, ◌<◌, length, get_or, take, sym, ap, ◌∙◌, subst, arith, rules}
use Rattle.std.specs.List.{All}
use Rattle.std.proofs.lemmas.List.Elements.{All-get_or}
use Rattle.td_values.specs.Data.{Attrs, no_attrs}
use Rattle.td_tuples.specs.Parts.{cut, names_of}
use Rattle.td_tuples.proofs.Filters.{taken}
use Rattle.td_algebra.specs.ForProofs.Index.{AreParts}
use Rattle.td_algebra.specs.ForProofs.Places.{values_at}
use Rattle.td_algebra.proofs.GroupParts.{parts_more, parts_again, taken_at}
use Rattle.td_algebra.proofs.Lists.{item_in}
use Rattle.td_algebra.proofs.Runs.{same_at}
use Rattle.td_algebra.proofs.summarization.parts_of_runs.Goals as goal
use Rattle.td_algebra.proofs.summarization.parts_of_runs.Goals.{then-not-repeats+in_ok-cut+in_ok-push, else-not-repeats}

pub loop-at-preserved : goal.loop-at-preserved
loop-at-preserved c =
    let ns = names_of c.args.heading.now in
    let x = c.args.index.now in
    let es = x.tuples.items in
    let i = c.loop-at.at in
    let within : i < length es = search rules in
    let out = c.loop-at.out.items in
    elim c.if-not-repeats.branch [
      | then-not-repeats+in_ok-cut+in_ok-push w ↦
          let t = w.index.result.now in
          let is = w.index.ensures in
          let u = w.in_ok-cut.field-0 in
          subst (λ us. AreParts ns es (take (i + 1) es) us) (sym (ap (λ v. v.items) w.out-is ∙ w.in_ok-push.ensures.items))
          (subst (λ ts. AreParts ns es ts (out ++ u ∷ [])) (sym (taken es i t within is))
          (parts_more ns es (take i es) out c.loop-at.invariant t u (item_in es i t within is) w.in_ok-cut.ensures))
      | else-not-repeats w ↦
          let again = c.repeats.ensures.0 w.if-not-repeats.false in
          let later = again.0 in
          let s = get_or es (i - 1) no_attrs in
          let t = get_or es i no_attrs in
          let P : Attrs → Type 0 = λ s. All (λ t. values_at x.places.items s ≡ values_at x.places.items t → cut ns s ≡ cut ns t) es in
          let same = All-get_or (λ t. values_at x.places.items s ≡ values_at x.places.items t → cut ns s ≡ cut ns t) es i no_attrs within (All-get_or P es (i - 1) no_attrs (omega (arith, later, within)) c.requires.alike) (again.1 no_attrs) in
          subst (λ us. AreParts ns es (take (i + 1) es) us) (sym (ap (λ v. v.items) w.out-is))
          (subst (λ ts. AreParts ns es ts out) (sym (taken es i t within (same_at es i no_attrs t within)))
          (parts_again ns es (take i es) out c.loop-at.invariant t s (taken_at es i (i - 1) no_attrs (omega (arith, later)) (omega (arith, within))) same))
    ]
