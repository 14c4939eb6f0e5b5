use Rattle.std.proofs.Common.{sym, subst}
use Rattle.std.proofs.lemmas.List.Elements.{All-get_or}
use Rattle.td_assign.specs.ForProofs.Given.{IsAssigned, Stands, assigned_by}
use Rattle.td_assign.specs.ForProofs.Turning.{Gives}
use Rattle.td_assign.proofs.Turning.{gives_alone, one_alone, raises_alone}
use Rattle.td_assign.proofs.sources.turn.Goals as goal

pub single_delta-requires : goal.single_delta-requires
single_delta-requires c =
    let d = c.args.database.now in
    let a = c.assignment-item.result in
    subst (IsAssigned d.catalogue) (sym c.assignment-item.is) (All-get_or (IsAssigned d.catalogue) c.args.assignments.now 0 a c.in-len1.len_at_least c.requires)

pub returns-in-Ok-Some : goal.returns-in-Ok-Some
returns-in-Ok-Some c =
    let d = c.args.database.now in
    let a = c.assignment-item.result in
    let told = rw c.in-Ok-Some.field-0-is at c.in-Ok-Some.ensures in
    subst (λ xs. Gives d xs a.target c.in-Ok-Some.delta) (sym (one_alone c.args.assignments.now a c.in-len1.len_at_least c.in-len1.len_below c.assignment-item.is))
    (gives_alone d a c.in-Ok-Some.delta told)

pub returns-in-Err : goal.returns-in-Err
returns-in-Err c =
    let d = c.args.database.now in
    let a = c.assignment-item.result in
    subst (λ xs. Stands c.in-Err.failure (assigned_by d xs)) (sym (one_alone c.args.assignments.now a c.in-len1.len_at_least c.in-len1.len_below c.assignment-item.is)) (raises_alone d a c.in-Err.failure c.in-Err.ensures)
