use Rattle.std.proofs.Common.{◌≡◌, ◌++◌, ◌∷◌, [], List, Ok, Err, refl, sym, ap, subst, ◌∙◌}
use Rattle.td_headings.specs.Catalogues.{CatalogueData}
use Rattle.td_stamps.specs.Entries.{stamp_of}
use Rattle.td_semantics.specs.Databases.{DatabaseData}
use Rattle.td_semantics.specs.Steps.{IsUnreadText}
use Rattle.td_replica.specs.Calls.{entry_of, latest_dialect}
use Rattle.td_replica.specs.Seen.{Contents, always_open, with_entries}
use Rattle.td_replica.specs.declared.calls.Issued.{Issued}
use Rattle.td_replay.specs.ForProofs.Judged.{IsRefusal}
use Rattle.td_replay.specs.ForProofs.Told.{outcomes_of}
use Rattle.td_replay.proofs.Issuing.{issues_entry, issues_refusal, next_is_known}
use Rattle.td_replay.proofs.Telling.{logged_history, logged_sound}
use Rattle.td_trials.specs.Trials.{Tries}
use Rattle.td_replay.proofs.state.State.try_entry.Goals as goal

pub try_next-requires : goal.try_next-requires
try_next-requires c =
    let i = c.self.inside in
    logged_sound i.script i.held.entries i.told.log.items i.told.engine c.self.invariant.2

pub returns-in-Ok-Some : goal.returns-in-Ok-Some
returns-in-Ok-Some c =
    let i = c.self.inside in
    let k : Contents = record { script = i.script; site = i.site; limit = i.held.limit; entries = i.held.entries } in
    let s = always_open k in
    let text = c.args.text.now in
    let e = c.args.entry.now in
    let next : entry_of s text ≡ Ok e = subst (λ (z : Contents). entry_of (always_open z) text ≡ Ok e) (sym c.self.view_is) c.requires.next in
    let (end, longer, tells) = rw c.in-Ok-Some.field-0-is at c.in-Ok-Some.ensures in
    let issued : Issued = record { stamp = stamp_of e; outcome = c.in-Ok-Some.outcome } in
    let after = with_entries s (s.entries ++ e ∷ []) in
    let issues = issues_entry s after text e issued i.told.log.items longer i.told.engine end refl c.self.invariant.2 next tells refl refl in
    subst (λ (z : Contents). Tries (always_open z) text (Ok c.in-Ok-Some.outcome)) c.self.view_is (issued, after, issues, refl)

pub refusal-requires-clause-unread : goal.refusal-requires-clause-unread
refusal-requires-clause-unread c =
    let i = c.self.inside in
    let k : Contents = record { script = i.script; site = i.site; limit = i.held.limit; entries = i.held.entries } in
    let s = always_open k in
    let text = c.args.text.now in
    let e = c.args.entry.now in
    let next : entry_of s text ≡ Ok e = subst (λ (z : Contents). entry_of (always_open z) text ≡ Ok e) (sym c.self.view_is) c.requires.next in
    let known = next_is_known s text e next in
    let unread = rw c.in-Ok-None.field-0-is at c.in-Ok-None.ensures in
    let same = c.catalogue.ensures.same ∙ ap (λ (z : DatabaseData). z.catalogue) c.database.ensures.same in
    subst (λ (k : CatalogueData). IsUnreadText k latest_dialect text) (sym same)
    (subst (λ n. IsUnreadText i.told.engine.catalogue n text) known.dialect_is (subst (λ t. IsUnreadText i.told.engine.catalogue e.dialect t) known.text_is unread))

pub returns-in-Ok-None : goal.returns-in-Ok-None
returns-in-Ok-None c =
    let i = c.self.inside in
    let k : Contents = record { script = i.script; site = i.site; limit = i.held.limit; entries = i.held.entries } in
    let s = always_open k in
    let text = c.args.text.now in
    let d = i.told.engine in
    let history = logged_history i.script i.held.entries i.told.log.items d c.self.invariant.2 in
    let same = c.catalogue.ensures.same ∙ ap (λ (z : DatabaseData). z.catalogue) c.database.ensures.same in
    let refused = subst (λ (k : CatalogueData). IsRefusal k text c.refusal.result) same c.refusal.ensures in
    subst (λ (z : Contents). Tries (always_open z) text (Err c.refusal.result)) c.self.view_is (issues_refusal s s text (outcomes_of i.told.log.items) d c.refusal.result refl history refl refused)
