use Rattle.td_incremental.proofs.Naming.{relvar_named}
use Rattle.td_incremental.proofs.references.relvar_names.Goals as goal

pub returns-in_ok-names_in-in-Some : goal.returns-in_ok-names_in-in-Some
returns-in_ok-names_in-in-Some c = relvar_named c.args.catalogue.now c.args.place c.in-Some.heading.now c.in_ok-names_in-in-Some.field-0.items c.in-Some.ensures c.in_ok-names_in-in-Some.ensures
