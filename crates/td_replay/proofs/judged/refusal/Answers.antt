use Rattle.std.proofs.Common.{Result, subst}
use Rattle.td_replay.specs.ForProofs.Judged.{Judges}
use Rattle.td_replica.specs.declared.refusal.IssueError.{IssueError}
use Rattle.td_replay.proofs.judged.refusal.Goals as goal

pub unreachable-requires : goal.unreachable-requires
unreachable-requires c =
    let read = subst (λ (r : Result (Unit {0}) IssueError). Judges c.args.catalogue.now c.args.text.now r) c.in-Ok.is c.judge.ensures in
    c.requires.unread read.0 read.1
