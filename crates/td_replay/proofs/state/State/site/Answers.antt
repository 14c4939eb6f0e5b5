use Rattle.std.proofs.Common.{subst}
use Rattle.td_replay.specs.ForProofs.Told.{outcomes_of}
use Rattle.td_replica.specs.Seen.{Contents, IsSound, always_open}
use Rattle.td_replay.proofs.Telling.{logged_history}
use Rattle.td_replay.proofs.state.State.site.Goals as goal

pub returns-clause-sound : goal.returns-clause-sound
returns-clause-sound c =
    let i = c.self.inside in
    let e = c.entries-entries.ensures in
    subst (λ (z : Contents). IsSound (always_open z)) c.self.view_is
    (record {
      site = c.self.invariant.0;
      limit = c.self.invariant.1;
      set = e.set;
      ranges = e.ranges;
      within = e.few;
      outcomes = outcomes_of i.told.log.items;
      told = (i.told.engine, logged_history i.script i.held.entries i.told.log.items i.told.engine c.self.invariant.2);
    })
