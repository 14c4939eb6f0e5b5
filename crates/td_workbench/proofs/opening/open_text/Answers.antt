use Rattle.std.proofs.Common.{map, sym, ap, ◌≡◌, ◌∙◌, subst}
use Rattle.std.specs.List.{AllByRecursion}
use Rattle.td_answers.specs.Sites.{Sites}
use Rattle.td_workbench.proofs.Starting.{one_script}
use Rattle.td_workbench.proofs.opening.open_text.Goals as goal

pub catalogue_for-requires : goal.catalogue_for-requires
catalogue_for-requires g c =
    let are = ap (map g.R.Replica.seen) c.deref.ensures.value ∙ c.in-Ok.ensures.2 in
    (c.args.script.now, subst (λ (ss : Sites). AllByRecursion (λ s. s.script ≡ c.args.script.now) ss) (sym are) (one_script c.args.script.now c.args.options.now.limit c.args.options.now.first c.args.options.now.sites))
