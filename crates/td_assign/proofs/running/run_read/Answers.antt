use Rattle.std.proofs.Common.{Global, IsTrue, Vec, ℕ, ap, sym, subst}
use Rattle.td_relations.specs.Deltas.{DeltaData}
use Rattle.td_semantics.proofs.Legal.{all_pass}
use Rattle.td_semantics.specs.Databases.{DatabaseData, IsLegal, stored_relvars}
use Rattle.td_semantics.specs.Given.{with_given}
use Rattle.td_assign.specs.Inserting.{PutsIn}
use Rattle.td_assign.specs.ForProofs.Lists.{given_to}
use Rattle.td_assign.specs.ForProofs.Turning.{MayTurn}
use Rattle.td_semantics.specs.Differences.{AreDifferences}
use Rattle.td_semantics.specs.Steps.{Steps, with_all}
use Rattle.td_semantics.specs.declared.outcome.Outcome.{Outcome}
use Rattle.td_assign.proofs.Turning.{turned_differences, turned_legal, turned_step}
use Rattle.td_assign.proofs.running.run_read.Goals as goal

pub returns-in_ok-put_all-in-Changes-clause-legal : goal.returns-in_ok-put_all-in-Changes-clause-legal
returns-in_ok-put_all-in-Changes-clause-legal c =
    let d = c.args.database.now in
    let cs = c.in-Changes.changes.items in
    let (dialect, text, reads) = c.requires.read in
    let prepared = rw c.in-Changes.is at c.in_ok-prepared.ensures dialect text reads in
    subst IsLegal (sym c.in_ok-put_all-in-Changes.ensures.ok) (subst (λ (e : DatabaseData). IsLegal (with_all e (given_to cs))) (sym c.count_reads.ensures) (all_pass d.catalogue (stored_relvars (with_given (given_to cs) d.stored)) d.catalogue.tests prepared.1.passes))

pub returns-in_ok-outcome-in-InPlace-clause-step : goal.returns-in_ok-outcome-in-InPlace-clause-step
returns-in_ok-outcome-in-InPlace-clause-step c = λ dialect text reads.
    let d = c.args.database.now in
    let told = rw c.in-InPlace.is at c.in_ok-prepared.ensures dialect text reads in
    let o = c.in_ok-outcome-in-InPlace.outcome in
    subst (λ (out : Outcome). Steps d dialect text out c.turn.new.database) (sym c.ran-in-InPlace.ensures.outcome)
    (turned_step d dialect text told.0 told.1 c.in-InPlace.relvar c.in-InPlace.delta c.relvars_fit.ensures told.2 o c.in_ok-outcome-in-InPlace.delta.items c.turn.new.database (rw c.count_reads.ensures at c.in_ok-outcome-in-InPlace.ensures.turned))

pub returns-in_ok-outcome-in-InPlace-clause-delta : goal.returns-in_ok-outcome-in-InPlace-clause-delta
returns-in_ok-outcome-in-InPlace-clause-delta c =
    let d = c.args.database.now in
    let (dialect, text, reads) = c.requires.read in
    let told = rw c.in-InPlace.is at c.in_ok-prepared.ensures dialect text reads in
    subst (AreDifferences (stored_relvars d.stored) (stored_relvars c.turn.new.database.stored)) (sym (ap (λ v. v.items) c.ran-in-InPlace.ensures.delta))
    (turned_differences d dialect text told.0 told.1 c.in-InPlace.relvar c.in-InPlace.delta c.relvars_fit.ensures told.2 c.in_ok-outcome-in-InPlace.outcome c.in_ok-outcome-in-InPlace.delta.items c.turn.new.database (rw c.count_reads.ensures at c.in_ok-outcome-in-InPlace.ensures.turned))

pub returns-in_ok-outcome-in-InPlace-clause-legal : goal.returns-in_ok-outcome-in-InPlace-clause-legal
returns-in_ok-outcome-in-InPlace-clause-legal c =
    let d = c.args.database.now in
    let (dialect, text, reads) = c.requires.read in
    let told = rw c.in-InPlace.is at c.in_ok-prepared.ensures dialect text reads in
    turned_legal d dialect text told.0 told.1 c.in-InPlace.relvar c.in-InPlace.delta c.relvars_fit.ensures told.2 c.in_ok-outcome-in-InPlace.outcome c.in_ok-outcome-in-InPlace.delta.items c.turn.new.database c.requires.legal (rw c.count_reads.ensures at c.in_ok-outcome-in-InPlace.ensures.turned)

pub turn-requires-clause-turns : goal.turn-requires-clause-turns
turn-requires-clause-turns c =
    let (dialect, text, reads) = c.requires.read in
    let told = rw c.in-InPlace.is at c.in_ok-prepared.ensures dialect text reads in
    subst (λ (z : DatabaseData). MayTurn z c.in-InPlace.relvar c.in-InPlace.delta) (sym c.count_reads.ensures) told.2.2.0

pub returns-in_ok-outcome-in-InPlace-clause-puts : goal.returns-in_ok-outcome-in-InPlace-clause-puts
returns-in_ok-outcome-in-InPlace-clause-puts c = λ dialect text reads yes.
    let d = c.args.database.now in
    let told = rw c.in-InPlace.is at c.in_ok-prepared.ensures dialect text reads in
    let o = c.in_ok-outcome-in-InPlace.outcome in
    let ds = c.in_ok-outcome-in-InPlace.delta.items in
    let new = c.turn.new.database in
    let turned = rw c.count_reads.ensures at c.in_ok-outcome-in-InPlace.ensures.turned in
    let step = turned_step d dialect text told.0 told.1 c.in-InPlace.relvar c.in-InPlace.delta c.relvars_fit.ensures told.2 o ds new turned in
    let differ = turned_differences d dialect text told.0 told.1 c.in-InPlace.relvar c.in-InPlace.delta c.relvars_fit.ensures told.2 o ds new turned in
    let here = c.deref-in-InPlace.ensures.value in
    subst (λ (v : Vec (ℕ × DeltaData) Global). PutsIn d.catalogue dialect text v.items) (sym c.ran-in-InPlace.ensures.delta)
    (subst (PutsIn d.catalogue dialect text) here
    (c.puts_in_all-all.ensures d new dialect text c.relvars_fit.ensures reads step (subst (AreDifferences (stored_relvars d.stored) (stored_relvars new.stored)) (sym here) differ) (subst IsTrue c.ran-in-InPlace.ensures.puts yes)))
