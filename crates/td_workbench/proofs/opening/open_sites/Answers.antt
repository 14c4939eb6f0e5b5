use Rattle.std.proofs.Common.{◌≡◌, inl, inr, ℕ, List, [], ◌∷◌, ◌++◌, ap, ◌∙◌, arith, map}
use Rattle.std.proofs.lemmas.List.{map-append}
use Rattle.td_replica.specs.Seen.{Seen}
use Rattle.td_workbench.specs.Scripts.{new_sites}
use Rattle.td_workbench.proofs.Starting.{new_sites_more}
use Rattle.td_workbench.proofs.opening.open_sites.Goals as goal

pub returns : goal.returns
returns g c =
    let all : c.loop-at.at ≡ c.args.options.now.sites = omega (arith, c.loop-at-test.false, c.loop-at.auto.at-end) in
    elim c.loop-at.invariant.1 [
      | inl none ↦ absurd (omega (arith, none, all, c.requires.some_sites))
      | inr opens ↦ (opens.0, opens.1, c.loop-at.invariant.0 ∙ ap (λ (n : ℕ). new_sites c.args.script.now c.args.options.now.limit c.args.options.now.first n) all)
    ]

pub loop-at-preserved : goal.loop-at-preserved
loop-at-preserved g c = (
  ap (map g.R.Replica.seen) c.in-Ok-push.ensures.items ∙ map-append g.R.Replica.seen c.loop-at.sites.items (c.in-Ok.site ∷ [])
      ∙ ap (λ (ss : List Seen). ss ++ g.R.Replica.seen c.in-Ok.site ∷ []) c.loop-at.invariant.0
      ∙ ap (λ (s : Seen). new_sites c.args.script.now c.args.options.now.limit c.args.options.now.first c.loop-at.at ++ s ∷ []) c.in-Ok.ensures.3
      ∙ new_sites_more c.args.script.now c.args.options.now.limit c.args.options.now.first c.loop-at.at,
  inr (c.in-Ok.ensures.1, c.in-Ok.ensures.2),
)
