use Rattle.std.proofs.Common.{◌≡◌, List, Err, Ok, sym, subst}
use Rattle.td_values.specs.Rows.{RowsData}
use Rattle.td_semantics.specs.Raises.{Tells}
use Rattle.td_semantics.specs.Databases.{stored_relvars}
use Rattle.td_assign.specs.ForProofs.Given.{AreChanges}
use Rattle.td_assign.specs.ForProofs.Lists.{given_to}
use Rattle.td_semantics.specs.Sources.{source_means}
use Rattle.td_assign.specs.declared.changes.Change.{Change}
use Rattle.td_assign.proofs.Assigning.{stands}
use Rattle.td_assign.proofs.Giving.{are_given}
use Rattle.td_assign.proofs.sources.add_source.Goals as goal

pub returns-in_ok-give-in-Ok-clause-told : goal.returns-in_ok-give-in-Ok-clause-told
returns-in_ok-give-in-Ok-clause-told c =
    let d = c.args.database.now in
    let x = c.args.assignment.now in
    (c.in-Ok.relation, subst (λ (zs : List Change). source_means d.catalogue (stored_relvars d.stored) (given_to zs) x ≡ Ok c.in-Ok.relation) c.deref.ensures.value c.in-Ok.ensures.told, c.in_ok-give-in-Ok.ensures)

pub returns-in_ok-give-in-Ok-clause-given : goal.returns-in_ok-give-in-Ok-clause-given
returns-in_ok-give-in-Ok-clause-given c =
    let k = c.args.database.now.catalogue in
    subst (AreChanges k) (sym c.in_ok-give-in-Ok.ensures) (are_given c.args.assignment.now.target c.in-Ok.relation k c.in-Ok.ensures.typed c.args.changes.now.items c.requires.given)

pub returns-in-Err-clause-told : goal.returns-in-Err-clause-told
returns-in-Err-clause-told c =
    let d = c.args.database.now in
    let x = c.args.assignment.now in
    let f = c.in-Err.failure in
    let told = subst (λ (zs : List Change). Tells {A = RowsData} (Err f) (source_means d.catalogue (stored_relvars d.stored) (given_to zs) x)) c.deref.ensures.value c.in-Err.ensures.told in
    stands (source_means d.catalogue (stored_relvars d.stored) (given_to c.args.changes.now.items) x) f told
