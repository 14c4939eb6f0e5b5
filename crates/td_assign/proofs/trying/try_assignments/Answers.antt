use Rattle.std.proofs.Common.{sym, subst}
use Rattle.td_assign.specs.ForProofs.Prepared.{AreAssignedWhole, by_source}
use Rattle.td_assign.specs.declared.running.Prepared.TheVariants.{Refused}
use Rattle.td_semantics.specs.declared.outcome.Outcome.TheVariants.{Raised}
use Rattle.td_assign.proofs.Preparing.{judged_whole}
use Rattle.td_assign.proofs.trying.try_assignments.Goals as goal

pub returns-in-Ok : goal.returns-in-Ok
returns-in-Ok c = judged_whole c.args.database.now c.args.assignments.now c.in-Ok.changes.items c.in-Ok.ensures.told c.judge_changes.result c.judge_changes.ensures

pub returns-in-Err-Raised : goal.returns-in-Err-Raised
returns-in-Err-Raised c =
    let told = rw c.in-Err-Raised.field-0-is at c.in-Err-Raised.ensures.told in
    subst (λ e. AreAssignedWhole c.args.database.now c.args.assignments.now (Refused (Raised e))) (sym c.in-Err-Raised.raise-is) (by_source told, tt)
