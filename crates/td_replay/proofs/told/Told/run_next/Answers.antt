use Rattle.std.proofs.Common.{◌++◌, ◌∷◌, [], ap, ◌∙◌}
use Rattle.td_stamps.specs.declared.entry.Stamp.{Stamp}
use Rattle.td_replay.proofs.told.Told.run_next.Goals as goal

pub returns-clause-ran : goal.returns-clause-ran
returns-clause-ran c =
    let log = c.args.self.now.log.items in
    let r = c.in_ok-ran.ran in
    (r, record { notes = c.in_ok-ran.ensures.step; log_is = c.in_ok-push.ensures.items ∙ ap (λ (s : Stamp). log ++ (s, r) ∷ []) c.stamp.ensures })
