use Rattle.td_headings.proofs.Placed.{put_taken, put_refused, still_seen}
use Rattle.td_headings.proofs.defined.Definitions.put_relvar.Goals as goal

pub returns-in-Err : goal.returns-in-Err
returns-in-Err c =
    let s = c.self.inside in
    let e = c.in-Err.ensures in (
      put_refused s.schema s.limits.items s.origins.items s.tests c.args.self.now c.self.view_is c.args.name c.args.heading c.args.origin c.args.keys.items c.in-Err.error e.ill_typed,
      still_seen s.schema s.limits.items s.origins.items s.tests c.args.self.now c.self.view_is c.args.name c.args.heading c.args.origin c.args.keys.items _ _ _ e.same_schema e.same_origins e.same_tests,
    )

pub returns : goal.returns
returns c =
    let s = c.self.inside in
    put_taken s.schema s.limits.items s.origins.items s.tests c.args.self.now c.self.view_is c.args.name c.args.heading c.args.origin c.args.keys.items _ _ _ c.in-Ok.ensures.schema c.in-Ok.ensures.origins c.in-Ok.ensures.tests
