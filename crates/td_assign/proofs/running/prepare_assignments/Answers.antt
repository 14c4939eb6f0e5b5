use Rattle.std.proofs.Common.{sym, subst}
use Rattle.td_assign.specs.ForProofs.Prepared.{Refuses, by_source}
use Rattle.td_semantics.specs.declared.outcome.Outcome.TheVariants.{Raised}
use Rattle.td_assign.proofs.running.prepare_assignments.Goals as goal

pub returns-in-Err-Raised : goal.returns-in-Err-Raised
returns-in-Err-Raised c =
    let told = rw c.in-Err-Raised.field-0-is at c.in-Err-Raised.ensures in
    subst (λ e. Refuses c.args.database.now c.args.assignments.now (Raised e)) (sym c.in-Err-Raised.raise-is) (by_source told)
