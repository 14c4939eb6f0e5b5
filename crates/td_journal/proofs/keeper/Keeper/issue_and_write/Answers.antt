use Rattle.std.proofs.Common.{rules, ◌≡◌, Err, Ok, false, ap, sym, subst, ◌∙◌}
use Rattle.td_io.specs.Views.{output_of}
use Rattle.td_stamps.specs.Sets.{Holding}
use Rattle.td_replica.specs.declared.refusal.IssueError.TheVariants as issue_error
use Rattle.td_journal.specs.Keeping.{JournalsIssue}
use Rattle.td_journal.specs.Views.{KeeperData, kept}
use Rattle.td_journal.proofs.Kept.{issue_leaves, issue_refused, issue_written}
use Rattle.td_journal.proofs.keeper.Keeper.issue_and_write.Goals as goal

pub returns-in-Err-clause-written : goal.returns-in-Err-clause-written
returns-in-Err-clause-written g c =
    let inside = c.self.inside in
    let after = g.R.Replica.seen c.issue.new.self in
    let new = output_of g.W.Sink inside.journal in
    subst (λ (k : KeeperData _ _). JournalsIssue (kept k.is_open (g.R.Replica.seen k.replica)) (Err c.in-Err.error) (kept inside.is_open after) (output_of g.W.Sink k.writer) new) c.self.view_is
    (issue_refused (g.R.Replica.seen inside.replica) after c.args.text.now c.in-Err.error inside.is_open new c.number_of-site.ensures.fits c.utf8.text c.in-Err.ensures.issues)

pub returns-in-Ok-accept-clause-written : goal.returns-in-Ok-accept-clause-written
returns-in-Ok-accept-clause-written g c =
    let inside = c.self.inside in
    let s = g.R.Replica.seen inside.replica in
    let after = g.R.Replica.seen c.issue.new.self in
    let old = output_of g.W.Sink inside.journal in
    let new = output_of g.W.Sink c.accept.new.self in
    let held = c.entries.ensures.entries ∙ ap (λ (h : Holding). h.entries) c.in-Ok-held.ensures.1 in
    subst (λ (k : KeeperData _ _). JournalsIssue (kept k.is_open (g.R.Replica.seen k.replica)) (Ok c.in-Ok.issued) (kept inside.is_open after) (output_of g.W.Sink k.writer) new) c.self.view_is
    (issue_written s after c.args.text.now c.in-Ok.issued inside.is_open old new c.last_of.result.now c.in-Ok.ensures.issues
    (λ e is. c.last_of.ensures.last s.entries e (held ∙ is)) c.in-Ok-accept.ensures.written c.in-Ok-accept.ensures.has)

pub returns-in-Err-accept-clause-written : goal.returns-in-Err-accept-clause-written
returns-in-Err-accept-clause-written g c =
    let inside = c.self.inside in
    let s = g.R.Replica.seen inside.replica in
    let after = g.R.Replica.seen c.issue.new.self in
    let old = output_of g.W.Sink inside.journal in
    let new = output_of g.W.Sink c.accept.new.self in
    let held = c.entries.ensures.entries ∙ ap (λ (h : Holding). h.entries) c.in-Ok-held.ensures.1 in
    let told = subst (λ (k : KeeperData _ _). JournalsIssue (kept k.is_open (g.R.Replica.seen k.replica)) (Err issue_error.JournalWrite) (kept false after) (output_of g.W.Sink k.writer) new) c.self.view_is
    (issue_leaves s after c.args.text.now c.in-Ok.issued inside.is_open old new c.last_of.result.now c.number_of-site.ensures.fits c.utf8.text c.in-Ok.ensures.issues
    (λ e is. c.last_of.ensures.last s.entries e (held ∙ is)) c.in-Err-accept.ensures.written.0) in
    let k = c.args.self.now in
    let at_end = λ (m : KeeperData _ _). JournalsIssue (kept k.is_open (g.R.Replica.seen k.replica)) (Err issue_error.JournalWrite) (kept m.is_open (g.R.Replica.seen m.replica)) (output_of g.W.Sink k.writer) (output_of g.W.Sink m.writer) in
    let self_is : c.match-issued.self ≡ record { replica = c.issue.new.self; writer = c.accept.new.self; is_open = false } = search rules in
    subst at_end (sym self_is) told
