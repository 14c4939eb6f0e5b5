use Rattle.std.proofs.Common.{rules, ◌≡◌, true, false, Bool, List, [], Err, sym, subst, ◌∙◌}
use Rattle.std.specs.List.{AllByRecursion, list_all}
use Rattle.td_io.specs.Streams.{AppendsFront}
use Rattle.td_io.specs.Views.{output_of}
use Rattle.td_stamps.specs.Entries.{in_range}
use Rattle.td_stamps.specs.Checks.{fresh_of}
use Rattle.td_stamps.specs.declared.entry.Entry.{Entry}
use Rattle.td_frames.specs.Spelling.{HasFrame, entry_frames}
use Rattle.td_frames.specs.declared.version.Version.TheVariants.{Second}
use Rattle.td_replica.specs.Calls.{Takes}
use Rattle.td_replica.specs.declared.refusal.TakeError.TheVariants as take_error
use Rattle.td_journal.specs.Keeping.{Accepts, JournalsBatch, LeavesPart}
use Rattle.td_journal.specs.Views.{KeeperData, kept}
use Rattle.td_journal.specs.Written.{HandsOn}
use Rattle.td_journal.proofs.Framed.{fresh_framed}
use Rattle.td_journal.proofs.Kept.{fresh_in_range, fresh_is, some_accepted, take_fails, take_refused}
use Rattle.td_journal.proofs.keeper.Keeper.take_and_write.Goals as goal

pub returns-in-Err-clause-written : goal.returns-in-Err-clause-written
returns-in-Err-clause-written g c =
    let inside = c.self.inside in
    let new = output_of g.W.Sink inside.journal in
    let has : AllByRecursion (HasFrame Second) c.args.batch.now = search rules in
    subst (λ (k : KeeperData _ _). JournalsBatch (kept k.is_open (g.R.Replica.seen k.replica)) c.args.batch.now (Err c.in-Err.error) (output_of g.W.Sink k.writer) new) c.self.view_is
    (take_refused (g.R.Replica.seen inside.replica) c.args.batch.now c.in-Err.error inside.is_open new has)

pub accept-requires : goal.accept-requires
accept-requires g c =
    let s = g.R.Replica.seen c.self.inside.replica in
    let after = g.R.Replica.seen c.take.new.self in
    let items = c.in-Ok-fresh.fresh.items in
    let takes = c.in-Ok-take.ensures.takes in
    let is = fresh_is s after c.args.batch.now c.in-Ok-take.taken c.in-Ok.held.now items c.in-Ok.ensures.1 takes c.in-Ok-fresh.ensures in
    subst (λ (l : List Entry). list_all in_range l ≡ true) (sym c.as_slice.ensures.value) (fresh_in_range s after c.args.batch.now c.in-Ok-take.taken items takes is)

pub returns-in-Ok-accept-clause-written : goal.returns-in-Ok-accept-clause-written
returns-in-Ok-accept-clause-written g c =
    let inside = c.self.inside in
    let s = g.R.Replica.seen inside.replica in
    let after = g.R.Replica.seen c.take.new.self in
    let items = c.in-Ok-fresh.fresh.items in
    let is = fresh_is s after c.args.batch.now c.in-Ok-take.taken c.in-Ok.held.now items c.in-Ok.ensures.1 c.in-Ok-take.ensures.takes c.in-Ok-fresh.ensures in
    let old = output_of g.W.Sink inside.journal in
    let new = output_of g.W.Sink c.accept.new.self in
    let fresh = fresh_of s.entries c.args.batch.now in
    let some : items ≡ [] → ⊥ = search rules in
    let all : c.as_slice.result.now ≡ fresh = c.as_slice.ensures.value ∙ is in
    subst (λ (k : KeeperData _ _). Accepts (fresh_of (g.R.Replica.seen k.replica).entries c.args.batch.now) (output_of g.W.Sink k.writer) new) c.self.view_is
    (some_accepted fresh old new (λ none. some (is ∙ none)) (subst (λ (l : List Entry). HandsOn old new (entry_frames Second l)) all c.in-Ok-accept.ensures.written) (subst (AllByRecursion (HasFrame Second)) all c.in-Ok-accept.ensures.has))

pub returns-clause-takes : goal.returns-clause-takes
returns-clause-takes g c =
    let inside = c.self.inside in
    let s = g.R.Replica.seen inside.replica in
    let after = g.R.Replica.seen c.take.new.self in
    let items = c.in-Ok-fresh.fresh.items in
    let takes = c.in-Ok-take.ensures.takes in
    let is = fresh_is s after c.args.batch.now c.in-Ok-take.taken c.in-Ok.held.now items c.in-Ok.ensures.1 takes c.in-Ok-fresh.ensures in
    let some : items ≡ [] → ⊥ = search rules in
    let open' : inside.is_open ≡ true = search rules in
    let fails = subst (λ (b : Bool). Takes (kept b s) c.args.batch.now (Err take_error.JournalWrite) (kept false after)) (sym open') (take_fails s after c.args.batch.now c.in-Ok-take.taken items takes is some) in
    subst (λ (k : KeeperData _ _). Takes (kept k.is_open (g.R.Replica.seen k.replica)) c.args.batch.now (Err take_error.JournalWrite) (kept false after)) c.self.view_is fails

pub returns-clause-written : goal.returns-clause-written
returns-clause-written g c =
    let inside = c.self.inside in
    let s = g.R.Replica.seen inside.replica in
    let after = g.R.Replica.seen c.take.new.self in
    let items = c.in-Ok-fresh.fresh.items in
    let is = fresh_is s after c.args.batch.now c.in-Ok-take.taken c.in-Ok.held.now items c.in-Ok.ensures.1 c.in-Ok-take.ensures.takes c.in-Ok-fresh.ensures in
    let old = output_of g.W.Sink inside.journal in
    let new = output_of g.W.Sink c.accept.new.self in
    let has : AllByRecursion (HasFrame Second) c.args.batch.now = search rules in
    let all : c.as_slice.result.now ≡ fresh_of s.entries c.args.batch.now = c.as_slice.ensures.value ∙ is in
    subst (λ (k : KeeperData _ _). LeavesPart (fresh_of (g.R.Replica.seen k.replica).entries c.args.batch.now) (output_of g.W.Sink k.writer) new) c.self.view_is
    (subst (λ (l : List Entry). AppendsFront old.held new.held (entry_frames Second l)) all c.in-Err-accept.ensures.written.0, fresh_framed s.entries c.args.batch.now has)
