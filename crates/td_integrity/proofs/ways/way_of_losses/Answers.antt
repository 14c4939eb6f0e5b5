use Rattle.std.proofs.Common.{ℕ, List, refl, ap, subst, ◌∙◌}
use Rattle.std.specs.Prelude.{IfSome}
use Rattle.td_algebra.specs.Functions.{project_of}
use Rattle.td_incremental.specs.References.{RefersBy}
use Rattle.td_integrity.specs.declared.losses.Losses.{Losses}
use Rattle.td_integrity.proofs.Gaining.{losses_tell}
use Rattle.td_integrity.proofs.ways.way_of_losses.Goals as goal

pub returns : goal.returns
returns c =
    let s = c.args.catalogue.now in
    let x = c.args.change.now in
    let by = c.in-Some.reference in
    let l : Losses = record { referred = x.0; referring = by.relvar; parts = c.in_ok-parts.parts } in
    losses_tell s c.args.expr.now x.0 x.1 c.requires l by.relvar by.names.items refl refl
    (c.in_ok-parts.ensures ∙ ap (λ (ns : List (List ℕ)). project_of ns x.1.deleted) c.deref.ensures.value)
    (subst (λ o. IfSome o (λ r. RefersBy s x.0 r.relvar r.names.items c.args.expr.now.tree)) c.in-Some.is c.in_ok-reference.ensures)
