use Rattle.std.proofs.Common.{◌≡◌, sym, subst}
use Rattle.std.specs.Prelude.{IfOk, OnErr}
use Rattle.td_assign.specs.Readings.{IsReadText}
use Rattle.td_semantics.specs.Databases.{DatabaseData}
use Rattle.td_semantics.specs.Steps.{Steps}
use Rattle.td_replay.proofs.Making.{origin_ran}
use Rattle.td_replay.proofs.Depending.{stay_by_origin}
use Rattle.td_replay.proofs.engine.EngineMachine.run_read.Goals as goal

pub invariant_of-self : goal.invariant_of-self
invariant_of-self c =
    let (e, is) = c.requires.read in
    let new = c.run_read.new.database in
    let within : IsReadText c.self.inside.database.catalogue e.dialect e.text c.args.reading.now = subst (λ (z : DatabaseData). IsReadText z.catalogue e.dialect e.text c.args.reading.now) (sym c.self.view_is) is in
    stay_by_origin c.self.inside.database c.args.self.now new c.self.inside.dependencies.relvars.items c.self.view_is
    (origin_ran c.args.self.now new e.dialect e.text c.run_read.result c.requires.sound
    (subst (λ (z : DatabaseData). IfOk c.run_read.result (λ r. Steps z e.dialect e.text r.outcome new)) c.self.view_is (c.run_read.ensures.step e.dialect e.text within))
    (subst (λ (z : DatabaseData). OnErr c.run_read.result (new ≡ z)) c.self.view_is c.run_read.ensures.kept))
    c.self.invariant

pub invariant_of-self-2 : goal.invariant_of-self-2
invariant_of-self-2 c =
    let (e, is) = c.requires.read in
    let new = c.run_read.new.database in
    let within : IsReadText c.self.inside.database.catalogue e.dialect e.text c.args.reading.now = subst (λ (z : DatabaseData). IsReadText z.catalogue e.dialect e.text c.args.reading.now) (sym c.self.view_is) is in
    stay_by_origin c.self.inside.database c.args.self.now new c.self.inside.dependencies.relvars.items c.self.view_is
    (origin_ran c.args.self.now new e.dialect e.text c.run_read.result c.requires.sound
    (subst (λ (z : DatabaseData). IfOk c.run_read.result (λ r. Steps z e.dialect e.text r.outcome new)) c.self.view_is (c.run_read.ensures.step e.dialect e.text within))
    (subst (λ (z : DatabaseData). OnErr c.run_read.result (new ≡ z)) c.self.view_is c.run_read.ensures.kept))
    c.self.invariant

pub returns-clause-origin : goal.returns-clause-origin
returns-clause-origin c =
    let (e, is) = c.requires.read in
    let new = c.run_read.new.database in
    let within : IsReadText c.self.inside.database.catalogue e.dialect e.text c.args.reading.now = subst (λ (z : DatabaseData). IsReadText z.catalogue e.dialect e.text c.args.reading.now) (sym c.self.view_is) is in
    origin_ran c.args.self.now new e.dialect e.text c.run_read.result c.requires.sound
    (subst (λ (z : DatabaseData). IfOk c.run_read.result (λ r. Steps z e.dialect e.text r.outcome new)) c.self.view_is (c.run_read.ensures.step e.dialect e.text within))
    (subst (λ (z : DatabaseData). OnErr c.run_read.result (new ≡ z)) c.self.view_is c.run_read.ensures.kept)
