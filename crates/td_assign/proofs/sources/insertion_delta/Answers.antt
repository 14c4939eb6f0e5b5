use Rattle.td_assign.proofs.Turning.{grows_alone}
use Rattle.td_assign.proofs.sources.insertion_delta.Goals as goal

pub returns-in_ok-growth_by-in-Ok-Some : goal.returns-in_ok-growth_by-in-Ok-Some
returns-in_ok-growth_by-in-Ok-Some c =
    let told = rw c.in-Ok-Some.field-0-is at c.in-Ok-Some.ensures in
    grows_alone c.args.database.now c.args.assignment.now c.in-Ok-Some.more c.in_ok-growth_by-in-Ok-Some.field-0 c.relvars_fit.ensures c.requires told.0 told.1 c.in_ok-growth_by-in-Ok-Some.ensures
