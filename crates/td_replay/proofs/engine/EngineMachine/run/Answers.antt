use Rattle.std.proofs.Common.{◌≡◌, subst}
use Rattle.std.specs.Prelude.{IfOk, OnErr}
use Rattle.td_semantics.specs.Databases.{DatabaseData}
use Rattle.td_semantics.specs.Steps.{Steps}
use Rattle.td_replay.proofs.Making.{origin_ran}
use Rattle.td_replay.proofs.Depending.{stay_by_origin}
use Rattle.td_replay.proofs.engine.EngineMachine.run.Goals as goal

pub invariant_of-self : goal.invariant_of-self
invariant_of-self c =
    let d = c.args.self.now in
    let new = c.run.new.database in
    let text = c.as_str-text.result.now in
    stay_by_origin c.self.inside.database d new c.self.inside.dependencies.relvars.items c.self.view_is
    (origin_ran d new c.args.entry.now.dialect text c.run.result c.requires
    (subst (λ (z : DatabaseData). IfOk c.run.result (λ r. Steps z c.args.entry.now.dialect text r.outcome new)) c.self.view_is c.run.ensures.step)
    (subst (λ (z : DatabaseData). OnErr c.run.result (new ≡ z)) c.self.view_is c.run.ensures.kept))
    c.self.invariant

pub invariant_of-self-2 : goal.invariant_of-self-2
invariant_of-self-2 c =
    let d = c.args.self.now in
    let new = c.run.new.database in
    let text = c.as_str-text.result.now in
    stay_by_origin c.self.inside.database d new c.self.inside.dependencies.relvars.items c.self.view_is
    (origin_ran d new c.args.entry.now.dialect text c.run.result c.requires
    (subst (λ (z : DatabaseData). IfOk c.run.result (λ r. Steps z c.args.entry.now.dialect text r.outcome new)) c.self.view_is c.run.ensures.step)
    (subst (λ (z : DatabaseData). OnErr c.run.result (new ≡ z)) c.self.view_is c.run.ensures.kept))
    c.self.invariant

pub returns-clause-origin : goal.returns-clause-origin
returns-clause-origin c =
    let d = c.args.self.now in
    let new = c.run.new.database in
    let text = c.as_str-text.result.now in
    origin_ran d new c.args.entry.now.dialect text c.run.result c.requires
    (subst (λ (z : DatabaseData). IfOk c.run.result (λ r. Steps z c.args.entry.now.dialect text r.outcome new)) c.self.view_is c.run.ensures.step)
    (subst (λ (z : DatabaseData). OnErr c.run.result (new ≡ z)) c.self.view_is c.run.ensures.kept)
