use Rattle.td_headings.proofs.Placed.{name_taken, name_refused, still_named}
use Rattle.td_headings.proofs.defined.Definitions.put_constraint.Goals as goal

pub returns-in-Err : goal.returns-in-Err
returns-in-Err c =
    let s = c.self.inside in
    let e = c.in-Err.ensures in (
      name_refused s.schema s.limits.items s.origins.items s.tests c.args.self.now c.self.view_is c.args.name c.args.tree c.in-Err.error e.ill_typed,
      still_named s.schema s.limits.items s.origins.items s.tests c.args.self.now c.self.view_is c.args.name c.args.tree _ e.err,
    )

pub returns : goal.returns
returns c =
    let s = c.self.inside in
    name_taken s.schema s.limits.items s.origins.items s.tests c.args.self.now c.self.view_is c.args.name c.args.tree _ c.in-Ok.ensures.new c.in-Ok.ensures.ok
