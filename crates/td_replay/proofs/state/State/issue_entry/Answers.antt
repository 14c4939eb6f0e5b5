use Rattle.std.proofs.Common.{◌≡◌, ℕ, true, List, Ok, Err, refl, sym, ap, subst, ◌∙◌}
use Rattle.td_headings.specs.Catalogues.{CatalogueData}
use Rattle.td_stamps.specs.Sets.{Holding}
use Rattle.td_semantics.specs.Databases.{DatabaseData}
use Rattle.td_semantics.specs.Steps.{IsUnreadText}
use Rattle.td_replica.specs.Calls.{Issues, IssuesEntry, entry_of, latest_dialect}
use Rattle.td_replay.specs.ForProofs.Judged.{IsRefusal}
use Rattle.td_replay.specs.ForProofs.Told.{IsLogged, outcomes_of}
use Rattle.td_replica.specs.Seen.{Contents, Seen, always_open, is_limit}
use Rattle.td_replica.specs.declared.calls.Issued.{Issued}
use Rattle.td_replica.specs.declared.refusal.IssueError.TheVariants as issue_error
use Rattle.td_replay.proofs.Issuing.{issues_entry, issues_refusal, next_is_known, next_is_last, next_may_be_added}
use Rattle.td_replay.proofs.Telling.{logged_more, logged_sound, logged_history}
use Rattle.td_replay.proofs.state.State.issue_entry.Goals as goal

pub add_last-requires-clause-fits : goal.add_last-requires-clause-fits
add_last-requires-clause-fits c =
    let i = c.self.inside in
    let k : Contents = record { script = i.script; site = i.site; limit = i.held.limit; entries = i.held.entries } in
    let s = always_open k in
    let text = c.args.text.now in
    let e = c.args.entry in
    let next : entry_of s text ≡ Ok e = subst (λ (z : Contents). entry_of (always_open z) text ≡ Ok e) (sym c.self.view_is) c.requires.next in
    next_may_be_added s text e c.self.invariant.0 c.requires.short next

pub add_last-requires-clause-last : goal.add_last-requires-clause-last
add_last-requires-clause-last c =
    let i = c.self.inside in
    let k : Contents = record { script = i.script; site = i.site; limit = i.held.limit; entries = i.held.entries } in
    let s = always_open k in
    let text = c.args.text.now in
    let e = c.args.entry in
    let next : entry_of s text ≡ Ok e = subst (λ (z : Contents). entry_of (always_open z) text ≡ Ok e) (sym c.self.view_is) c.requires.next in
    next_is_last s text e c.self.invariant.0 c.requires.short next

pub add_last-requires-clause-sound : goal.add_last-requires-clause-sound
add_last-requires-clause-sound c =
    let i = c.self.inside in
    logged_sound i.script i.held.entries i.told.log.items i.told.engine c.self.invariant.2

pub refusal-requires-clause-unread : goal.refusal-requires-clause-unread
refusal-requires-clause-unread c =
    let i = c.self.inside in
    let k : Contents = record { script = i.script; site = i.site; limit = i.held.limit; entries = i.held.entries } in
    let s = always_open k in
    let text = c.args.text.now in
    let e = c.args.entry in
    let next : entry_of s text ≡ Ok e = subst (λ (z : Contents). entry_of (always_open z) text ≡ Ok e) (sym c.self.view_is) c.requires.next in
    let known = next_is_known s text e next in
    let ran = rw c.in-Ok-None.field-0-is at c.in-Ok-None.ensures.ran in
    let same = c.catalogue.ensures.same ∙ ap (λ (z : DatabaseData). z.catalogue) (c.database.ensures.same ∙ ran.0) in
    subst (λ (k : CatalogueData). IsUnreadText k latest_dialect text) (sym same)
    (subst (λ (n : ℕ). IsUnreadText i.told.engine.catalogue n text) known.dialect_is (subst (λ (t : List ℕ). IsUnreadText i.told.engine.catalogue e.dialect t) known.text_is ran.2))

pub returns-in-Ok-None-clause-issues : goal.returns-in-Ok-None-clause-issues
returns-in-Ok-None-clause-issues c =
    let i = c.self.inside in
    let k : Contents = record { script = i.script; site = i.site; limit = i.held.limit; entries = i.held.entries } in
    let s = always_open k in
    let text = c.args.text.now in
    let d = i.told.engine in
    let history = logged_history i.script i.held.entries i.told.log.items d c.self.invariant.2 in
    let ran = rw c.in-Ok-None.field-0-is at c.in-Ok-None.ensures.ran in
    let holds = rw c.in-Ok-None.field-0-is at c.in-Ok-None.ensures.holds in
    let with_held : Holding → Seen = λ h. record { script = i.script; site = i.site; limit = h.limit; entries = h.entries; live = true } in
    let after = with_held c.add_last.new.held in
    let same = c.catalogue.ensures.same ∙ ap (λ (z : DatabaseData). z.catalogue) (c.database.ensures.same ∙ ran.0) in
    let refused = subst (λ (k : CatalogueData). IsRefusal k text c.refusal.result) same c.refusal.ensures in
    subst (λ (z : Contents). Issues (always_open z) text (Err c.refusal.result) after) c.self.view_is (issues_refusal s after text (outcomes_of i.told.log.items) d c.refusal.result refl history (ap with_held holds) refused)

pub invariant_of-self-2 : goal.invariant_of-self-2
invariant_of-self-2 c =
    let i = c.self.inside in
    let e = c.args.entry in
    let new = c.add_last.new in
    let ran = rw c.in-Ok-Some.field-0-is at c.in-Ok-Some.ensures.ran in
    let holds = rw c.in-Ok-Some.field-0-is at c.in-Ok-Some.ensures.holds in (
      c.self.invariant.0,
      subst (λ (h : Holding). is_limit h.limit ≡ true) (sym holds) c.self.invariant.1,
      subst (λ (h : Holding). IsLogged i.script h.entries new.told.log.items new.told.engine) (sym holds)
          (logged_more i.script i.held.entries i.told.log.items i.told.engine c.self.invariant.2 new.told.log.items new.told.engine e ran.ran ran.runs),
    )

pub returns-clause-issues : goal.returns-clause-issues
returns-clause-issues c =
    let i = c.self.inside in
    let k : Contents = record { script = i.script; site = i.site; limit = i.held.limit; entries = i.held.entries } in
    let s = always_open k in
    let text = c.args.text.now in
    let e = c.args.entry in
    let next : entry_of s text ≡ Ok e = subst (λ (z : Contents). entry_of (always_open z) text ≡ Ok e) (sym c.self.view_is) c.requires.next in
    let new = c.add_last.new in
    let issued : Issued = record { stamp = c.stamp-stamp.result; outcome = c.in-Ok-Some.outcome } in
    let ran = rw c.in-Ok-Some.field-0-is at c.in-Ok-Some.ensures.ran in
    let holds = rw c.in-Ok-Some.field-0-is at c.in-Ok-Some.ensures.holds in
    let with_held : Holding → Seen = λ h. record { script = i.script; site = i.site; limit = h.limit; entries = h.entries; live = true } in
    let after = with_held new.held in
    subst (λ (z : Contents). IssuesEntry (always_open z) text issued after) c.self.view_is
    (issues_entry s after text e issued i.told.log.items new.told.log.items i.told.engine new.told.engine refl c.self.invariant.2 next ran c.stamp-stamp.ensures (ap with_held holds))

pub returns-in-Ok-None-clause-journal : goal.returns-in-Ok-None-clause-journal
returns-in-Ok-None-clause-journal c = λ is.
    let same : c.refusal.result ≡ issue_error.JournalWrite = cc in
    subst (IsRefusal c.catalogue.result.now c.args.text.now) same c.refusal.ensures
