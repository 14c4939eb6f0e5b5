use Rattle.std.proofs.Common.{◌≡◌, sym, subst}
use Rattle.std.specs.Prelude.{OnErr, OnOk}
use Rattle.td_assign.specs.Redoing.{CanUndo, IsBetween}
use Rattle.td_relvars.specs.Changed.{undone}
use Rattle.td_semantics.specs.Databases.{DatabaseData}
use Rattle.td_replay.proofs.Making.{can_undo, undone_elsewhere, undone_is}
use Rattle.td_replay.proofs.Depending.{stay_between}
use Rattle.td_replay.proofs.engine.EngineMachine.undo.Goals as goal

pub invariant_of-self : goal.invariant_of-self
invariant_of-self c =
    stay_between c.undo.result c.self.inside.database c.undo.new.database (undone c.deref.result.now c.self.inside.database.stored) (undone c.deref.result.now c.self.inside.database.stored) c.self.inside.dependencies.relvars.items
    c.undo.ensures.ok c.undo.ensures.err c.self.invariant

pub undo-requires-clause-fits : goal.undo-requires-clause-fits
undo-requires-clause-fits c =
    let q = c.requires in
    subst (λ (z : DatabaseData). CanUndo z c.deref.result.now) (sym c.self.view_is)
    (can_undo q.0 c.args.self.now q.1 c.args.ran.now q.2 q.3 c.deref.result.now c.deref.ensures.value)

pub returns-clause-before : goal.returns-clause-before
returns-clause-before c = λ s e good step.
    undone_is s c.args.self.now e c.args.ran.now good step c.deref.result.now c.deref.ensures.value c.undo.new.database c.undo.result
    (subst (λ (z : DatabaseData). OnOk c.undo.result (c.undo.new.database ≡ record z { stored = undone c.deref.result.now z.stored })) c.self.view_is c.undo.ensures.ok)

pub returns-clause-elsewhere : goal.returns-clause-elsewhere
returns-clause-elsewhere c =
    let q = c.requires in
    undone_elsewhere q.0 c.args.self.now q.1 c.args.ran.now q.2 q.3 c.deref.result.now c.deref.ensures.value c.undo.new.database c.undo.result
    (subst (λ (z : DatabaseData). OnOk c.undo.result (c.undo.new.database ≡ record z { stored = undone c.deref.result.now z.stored })) c.self.view_is c.undo.ensures.ok)
    (subst (λ (z : DatabaseData). OnErr c.undo.result (IsBetween z (undone c.deref.result.now z.stored) c.undo.new.database)) c.self.view_is c.undo.ensures.err)
