use Rattle.std.proofs.Common.{◌≡◌, ◌++◌, ◌∷◌, [], ◌+◌, ◌-◌, ◌<◌, length, get_or, take, map, sym, ap, ◌∙◌, subst, arith, rules}
use Rattle.std.specs.List.{All, filter}
use Rattle.std.proofs.lemmas.List.Elements.{All-filter, All-get_or}
use Rattle.td_values.specs.Data.{Attrs, no_attrs}
use Rattle.td_tuples.specs.Parts.{Fits, cut, names_of}
use Rattle.td_tuples.proofs.Filters.{taken}
use Rattle.td_algebra.specs.ForProofs.Index.{AreGroups, HoldsTuples, found, has_part}
use Rattle.td_algebra.specs.ForProofs.Places.{has_values, values_at}
use Rattle.td_algebra.proofs.GroupParts.{taken_at}
use Rattle.td_algebra.proofs.Grouping.{groups_more, groups_again}
use Rattle.td_algebra.proofs.Lists.{item_in}
use Rattle.td_algebra.proofs.Runs.{same_at}
use Rattle.td_algebra.proofs.Walks.{at_item}
use Rattle.td_algebra.proofs.groups.groups_of_runs.Goals as goal
use Rattle.td_algebra.proofs.groups.groups_of_runs.Goals.{then-not-repeats+in_ok-group_of_run+in_ok-push, else-not-repeats}

pub group_of_run-requires : goal.group_of_run-requires
group_of_run-requires c =
    let x = c.args.index.now in
    let P : Attrs → Type 0 = λ t. Fits c.args.inner.now (cut (names_of c.args.inner.now) t) in
    subst (All P) (sym c.run_near.ensures) (All-filter (has_values x.places.items (values_at x.others.items c.index-tuple.result.now)) P x.tuples.items c.requires.fit)

pub loop-at-preserved : goal.loop-at-preserved
loop-at-preserved c =
    let inner = c.args.inner.now in
    let outer = c.args.outer.now in
    let name = c.args.name.now in
    let x = c.args.index.now in
    let es = x.tuples.items in
    let i = c.loop-at.at in
    let within : i < length es = search rules in
    let so_far = c.loop-at.invariant in
    elim c.if-not-repeats.branch [
      | then-not-repeats+in_ok-group_of_run+in_ok-push w ↦
          let t = w.index-tuple.result.now in
          let u = w.in_ok-group_of_run.field-0 in
          let is = w.index-tuple.ensures in
          let P : Attrs → Type 0 = λ t. found x t ≡ filter (has_part (names_of outer) (cut (names_of outer) t)) es in
          let run = w.run_near.ensures ∙ at_item P es i t within is c.requires.by_parts.finds in
          let holds = subst (λ ts. HoldsTuples inner name (cut (names_of outer) t) (map (cut (names_of inner)) ts) u) run w.in_ok-group_of_run.ensures in
          subst (λ us. AreGroups inner outer name es (take (i + 1) es) us) (sym (ap (λ v. v.items) w.out-is ∙ w.in_ok-push.ensures.items))
          (subst (λ ts. AreGroups inner outer name es ts (c.loop-at.out.items ++ u ∷ [])) (sym (taken es i t within is))
          (groups_more inner outer name es (take i es) c.loop-at.out.items so_far t u (item_in es i t within is) holds))
      | else-not-repeats w ↦
          let again = c.repeats.ensures.0 w.if-not-repeats.false in
          let later = again.0 in
          let s = get_or es (i - 1) no_attrs in
          let t = get_or es i no_attrs in
          let P : Attrs → Type 0 = λ s. All (λ t. values_at x.places.items s ≡ values_at x.places.items t → cut (names_of outer) s ≡ cut (names_of outer) t) es in
          let same = All-get_or (λ t. values_at x.places.items s ≡ values_at x.places.items t → cut (names_of outer) s ≡ cut (names_of outer) t) es i no_attrs within (All-get_or P es (i - 1) no_attrs (omega (arith, later, within)) c.requires.by_parts.alike) (again.1 no_attrs) in
          subst (λ us. AreGroups inner outer name es (take (i + 1) es) us) (sym (ap (λ v. v.items) w.out-is))
          (subst (λ ts. AreGroups inner outer name es ts c.loop-at.out.items) (sym (taken es i t within (same_at es i no_attrs t within)))
          (groups_again inner outer name es (take i es) c.loop-at.out.items so_far t s (taken_at es i (i - 1) no_attrs (omega (arith, later)) (omega (arith, within))) same))
    ]
