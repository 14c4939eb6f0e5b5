use Rattle.td_io.specs.Views.{output_of}
use Rattle.td_journal.specs.Views.{seen_of}
use Rattle.td_journal.proofs.Journaled.{take_stays}
use Rattle.td_journal.proofs.keeper.KeeperReplica.take.Goals as goal

pub returns-clause-journaled : goal.returns-clause-journaled
returns-clause-journaled g c =
    let old = c.args.self.now in
    let new = c.take_and_write.new.self in
    take_stays (seen_of g.R.Replica old) (seen_of g.R.Replica new) c.args.batch.now c.take_and_write.result (output_of g.W.Sink old.writer) (output_of g.W.Sink new.writer)
    c.site-site.ensures.sound c.take_and_write.ensures.takes c.take_and_write.ensures.written
