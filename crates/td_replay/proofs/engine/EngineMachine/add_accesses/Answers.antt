use Rattle.std.proofs.Common.{ap, sym, subst}
use Rattle.td_assign.specs.Readings.{IsReadText}
use Rattle.td_semantics.specs.Databases.{DatabaseData}
use Rattle.td_replay.proofs.Recorded.{covered_over, entries_kept, kept_over}
use Rattle.td_replay.proofs.engine.EngineMachine.add_accesses.Goals as goal

pub returns-clause-covered : goal.returns-clause-covered
returns-clause-covered c = λ e reads.
    let same = ap (λ (x : DatabaseData). x.catalogue) c.self.view_is in
    covered_over c.self.inside.database.catalogue c.args.self.now.catalogue c.add_reading.result c.add_reading.new.accesses e.dialect e.text same
    (c.add_reading.ensures.covered e.dialect e.text (subst (λ (x : DatabaseData). IsReadText x.catalogue e.dialect e.text c.args.reading.now) (sym c.self.view_is) reads))

pub returns-clause-kept : goal.returns-clause-kept
returns-clause-kept c =
    entries_kept c.args.self.now.catalogue c.add_reading.result c.args.accesses.now c.add_reading.new.accesses
    (kept_over c.self.inside.database.catalogue c.args.self.now.catalogue c.add_reading.result c.args.accesses.now c.add_reading.new.accesses (ap (λ (x : DatabaseData). x.catalogue) c.self.view_is) c.add_reading.ensures.kept)
