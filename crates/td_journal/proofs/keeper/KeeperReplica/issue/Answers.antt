use Rattle.td_io.specs.Views.{output_of}
use Rattle.td_journal.specs.Views.{seen_of}
use Rattle.td_journal.proofs.Journaled.{issue_stays}
use Rattle.td_journal.proofs.keeper.KeeperReplica.issue.Goals as goal

pub returns-clause-journaled : goal.returns-clause-journaled
returns-clause-journaled g c =
    let old = c.args.self.now in
    let new = c.issue_and_write.new.self in
    issue_stays (seen_of g.R.Replica old) (seen_of g.R.Replica new) c.args.text.now c.issue_and_write.result (output_of g.W.Sink old.writer) (output_of g.W.Sink new.writer)
    c.issue_and_write.ensures.issues c.issue_and_write.ensures.written
