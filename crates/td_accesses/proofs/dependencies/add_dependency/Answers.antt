use Rattle.td_accesses.proofs.Depending.{by_relvar, depends_by_reference}
use Rattle.td_accesses.proofs.dependencies.add_dependency.Goals as goal

pub returns-in_ok-push-in-Some-2-clause-depends : goal.returns-in_ok-push-in-Some-2-clause-depends
returns-in_ok-push-in-Some-2-clause-depends c =
    let x = c.args.dependencies.now in
    let r = c.in-Some.reference in
    let told = rw c.in-Some.is at c.in_ok-reference.ensures in
    depends_by_reference c.args.catalogue.now c.args.relvar c.args.expr.now.tree c.args.other (record { is_suited = x.is_suited; references = c.push-in-Some.new.self; bound = x.bound }) x.references.items (record { relvar = c.args.other; names = r.names })
    c.in_ok-push-in-Some-2.ensures.items (by_relvar c.args.catalogue.now c.args.relvar c.args.expr.now.tree c.args.other r c.if-reference-relvar.false told)
