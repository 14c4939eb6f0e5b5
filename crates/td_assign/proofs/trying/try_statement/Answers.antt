use Rattle.std.proofs.Common.{sym, subst, refl}
use Rattle.td_assign.specs.ForProofs.Prepared.{IsMadeWhole, by_error}
use Rattle.td_assign.specs.declared.running.Prepared.TheVariants.{Refused}
use Rattle.td_semantics.specs.declared.outcome.Outcome.TheVariants.{Raised}
use Rattle.td_assign.proofs.Preparing.{made_whole}
use Rattle.td_assign.proofs.trying.try_statement.Goals as goal

pub returns-in-Ok : goal.returns-in-Ok
returns-in-Ok c = made_whole c.args.database.now c.args.statement.now c.in-Ok.assignments.now c.in-Ok.ensures.told c.try_assignments.result c.try_assignments.ensures

pub returns-in-Err-Raised : goal.returns-in-Err-Raised
returns-in-Err-Raised c =
    let told = rw c.in-Err-Raised.field-0-is at c.in-Err-Raised.ensures.told in
    subst (λ e. IsMadeWhole c.args.database.now c.args.statement.now (Refused (Raised e))) (sym c.in-Err-Raised.raise-is) (by_error _ told refl, tt)
