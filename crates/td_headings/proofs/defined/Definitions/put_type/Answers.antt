use Rattle.td_headings.proofs.Placed.{type_taken, type_refused, still_typed}
use Rattle.td_headings.proofs.defined.Definitions.put_type.Goals as goal

pub returns-in-Err : goal.returns-in-Err
returns-in-Err c =
    let s = c.self.inside in
    let e = c.in-Err.ensures in (
      type_refused s.schema s.limits.items s.origins.items s.tests c.args.self.now c.self.view_is c.args.representation c.args.limit c.in-Err.error e.ill_typed,
      still_typed s.schema s.limits.items s.origins.items s.tests c.args.self.now c.self.view_is c.args.representation c.args.limit _ _ e.same_schema e.same_limits,
    )

pub returns : goal.returns
returns c =
    let s = c.self.inside in
    type_taken s.schema s.limits.items s.origins.items s.tests c.args.self.now c.self.view_is c.args.representation c.args.limit _ _ c.in-Ok.ensures.schema c.in-Ok.ensures.limits
