use Rattle.std.proofs.Common.{◌≡◌, sym, subst}
use Rattle.std.specs.Prelude.{OnErr, OnOk}
use Rattle.td_assign.specs.Redoing.{CanRedo, IsBetween}
use Rattle.td_relvars.specs.Changed.{redone}
use Rattle.td_semantics.specs.Databases.{DatabaseData}
use Rattle.td_replay.proofs.Making.{can_redo, redone_elsewhere, redone_is}
use Rattle.td_replay.proofs.Depending.{stay_between}
use Rattle.td_replay.proofs.engine.EngineMachine.redo.Goals as goal

pub invariant_of-self : goal.invariant_of-self
invariant_of-self c =
    stay_between c.redo.result c.self.inside.database c.redo.new.database (redone c.deref.result.now c.self.inside.database.stored) (redone c.deref.result.now c.self.inside.database.stored) c.self.inside.dependencies.relvars.items
    c.redo.ensures.ok c.redo.ensures.err c.self.invariant

pub redo-requires-clause-fits : goal.redo-requires-clause-fits
redo-requires-clause-fits c =
    let q = c.requires in
    subst (λ (z : DatabaseData). CanRedo z c.deref.result.now) (sym c.self.view_is)
    (can_redo c.args.self.now q.1.0 q.1.1 c.args.ran.now q.0 q.1.2 c.deref.result.now c.deref.ensures.value)

pub returns-clause-after : goal.returns-clause-after
returns-clause-after c = λ t e step.
    redone_is c.args.self.now t e c.args.ran.now c.requires.0 step c.deref.result.now c.deref.ensures.value c.redo.new.database c.redo.result
    (subst (λ (z : DatabaseData). OnOk c.redo.result (c.redo.new.database ≡ record z { stored = redone c.deref.result.now z.stored })) c.self.view_is c.redo.ensures.ok)

pub returns-clause-elsewhere : goal.returns-clause-elsewhere
returns-clause-elsewhere c =
    let q = c.requires in
    redone_elsewhere c.args.self.now q.1.0 q.1.1 c.args.ran.now q.0 q.1.2 c.deref.result.now c.deref.ensures.value c.redo.new.database c.redo.result
    (subst (λ (z : DatabaseData). OnOk c.redo.result (c.redo.new.database ≡ record z { stored = redone c.deref.result.now z.stored })) c.self.view_is c.redo.ensures.ok)
    (subst (λ (z : DatabaseData). OnErr c.redo.result (IsBetween z (redone c.deref.result.now z.stored) c.redo.new.database)) c.self.view_is c.redo.ensures.err)
