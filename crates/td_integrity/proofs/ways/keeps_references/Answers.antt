use Rattle.std.proofs.Common.{ℕ, List, IfSome, subst}
use Rattle.td_incremental.specs.References.{Refers}
use Rattle.td_integrity.specs.ForProofs.Leaving.{LeavesParts}
use Rattle.td_integrity.proofs.ways.keeps_references.Goals as goal

pub returns : goal.returns
returns c = λ b. record {
  names = c.in-Some.names.items;
  refers = subst (λ o. IfSome o (λ v. Refers c.args.catalogue.now c.args.change.now.0 v.items c.args.expr.now.tree)) c.in-Some.is c.in_ok-names.ensures;
  leaves = subst (λ (ns : List (List ℕ)). LeavesParts ns c.args.change.now.1) c.deref.ensures.value (c.in_ok-keeps.ensures b);
}
