use Rattle.std.proofs.Common.{refl}
use Rattle.td_rollback.proofs.Parting.{on_ok}
use Rattle.td_replay.specs.Noted.{opened_by}
use Rattle.td_replay.proofs.Telling.{told_on}
use Rattle.td_replay.proofs.told.Told.replay.Goals as goal

pub replay_with-requires-clause-history : goal.replay_with-requires-clause-history
replay_with-requires-clause-history c =
    let l = c.requires.logged.1 in
    (opened_by c.args.self.now.engine.catalogue, record { sound = l.sound; origin_is = refl; history = l.runs })

pub returns-clause-logged : goal.returns-clause-logged
returns-clause-logged c = λ script l.
    let d = c.args.self.now.engine in
    let u = c.replay_with.new.machine in
    on_ok c.replay_with.result (λ told. told_on script c.args.old.now c.args.self.now.log.items d l c.args.new.now c.replay_with.new.log.items u c.replay_with.ensures.origin told.history)
    (c.replay_with.ensures.history (opened_by d.catalogue) (record { sound = l.sound; origin_is = refl; history = l.runs }))
