use Rattle.std.proofs.Common.{sym, subst}
use Rattle.td_headings.specs.ForProofs.KeptConstraints.{AreKept}
use Rattle.td_headings.specs.ForProofs.RelvarsRead.{AreTold}
use Rattle.td_headings.proofs.RelvarsRead.{told_of}
use Rattle.td_headings.proofs.catalogue.Catalogue.keep_constraints.Goals as goal

pub invariant_of-self : goal.invariant_of-self
invariant_of-self c =
    let exprs = c.in_ok-constraints.constraints.items in
    let read = c.in_ok-self-inside.field-0.items in
    let kept = subst (λ k. AreKept k exprs) (sym c.self.view_is) c.in_ok-constraints.ensures in (
      c.self.invariant.0,
      kept,
      told_of c.self.inside.definitions exprs read c.self.invariant.0 kept (subst (λ xs. AreTold xs read) c.deref.ensures.value c.in_ok-self-inside.ensures),
    )
