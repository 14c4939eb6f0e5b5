-- What a call on one site does to its script: nothing.
use Rattle.std.proofs.Common.{◌≡◌, List, ℕ, Result, Ok, Err, ap}
use Rattle.td_stamps.specs.declared.entry.Entry.{Entry}
use Rattle.td_replica.specs.Calls.{Issues, Takes}
use Rattle.td_replica.specs.Seen.{Seen}
use Rattle.td_replica.specs.declared.calls.Issued.{Issued}
use Rattle.td_replica.specs.declared.calls.Taken.{Taken}
use Rattle.td_replica.specs.declared.refusal.IssueError.{IssueError}
use Rattle.td_replica.specs.declared.refusal.IssueError.TheVariants as issue_error
use Rattle.td_replica.specs.declared.refusal.TakeError.{TakeError}
use Rattle.td_replica.specs.declared.refusal.TakeError.TheVariants as take_error

pub same_script : (s after : Seen) → after ≡ s → after.script ≡ s.script
same_script s after is = ap (λ (t : Seen). t.script) is

pub issue_keeps : (s : Seen) (t : List ℕ) (r : Result Issued IssueError) (after : Seen) → Issues s t r after → after.script ≡ s.script
issue_keeps s t (Ok i) after told = ap (λ (u : Seen). u.script) told.last
issue_keeps s t (Err issue_error.Broken) after told = same_script s after told.1
issue_keeps s t (Err issue_error.Syntax) after told = same_script s after told.0.1
issue_keeps s t (Err issue_error.IllTyped) after told = same_script s after told.0.1
issue_keeps s t (Err issue_error.ClockEnd) after told = same_script s after told.0.1
issue_keeps s t (Err issue_error.Full) after told = same_script s after told.0.1
issue_keeps s t (Err issue_error.OutOfMemory) after told = same_script s after told.0.1
issue_keeps s t (Err issue_error.JournalWrite) after told = ap (λ (u : Seen). u.script) told.3.1

pub take_keeps : (s : Seen) (batch : List Entry) (r : Result Taken TakeError) (after : Seen) → Takes s batch r after → after.script ≡ s.script
take_keeps s batch (Ok taken) after told = ap (λ (u : Seen). u.script) told.union
take_keeps s batch (Err take_error.Broken) after told = same_script s after told.1
take_keeps s batch (Err take_error.BadEntry) after told = same_script s after told.0.1
take_keeps s batch (Err (take_error.Clash site seq)) after told = same_script s after told.0.1
take_keeps s batch (Err take_error.Full) after told = same_script s after told.0.1
take_keeps s batch (Err take_error.OutOfMemory) after told = same_script s after told.0.1
take_keeps s batch (Err take_error.JournalWrite) after told = ap (λ (u : Seen). u.script) told.3.1
