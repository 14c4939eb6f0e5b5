use Rattle.std.proofs.Common.{Err, Result, refl, sym, ap, subst, ◌∙◌}
use Rattle.td_headings.specs.Catalogues.{CatalogueData}
use Rattle.td_replica.specs.Calls.{Issues}
use Rattle.td_semantics.specs.Databases.{DatabaseData}
use Rattle.td_replay.specs.ForProofs.Judged.{IsRefusal, Judges}
use Rattle.td_replay.specs.ForProofs.Told.{Numbers, outcomes_of}
use Rattle.td_replica.specs.Seen.{Contents, always_open}
use Rattle.td_replica.specs.declared.refusal.IssueError.{IssueError}
use Rattle.td_replay.proofs.Issuing.{issues_no_entry, issues_refusal}
use Rattle.td_replay.proofs.Telling.{logged_history}
use Rattle.td_replay.proofs.state.State.first_refusal.Goals as goal

pub returns-in-Ok-clause-issues : goal.returns-in-Ok-clause-issues
returns-in-Ok-clause-issues c =
    let i = c.self.inside in
    let k : Contents = record { script = i.script; site = i.site; limit = i.held.limit; entries = i.held.entries } in
    let s = always_open k in
    let text = c.args.text.now in
    let d = i.told.engine in
    let history = logged_history i.script i.held.entries i.told.log.items d c.self.invariant.2 in
    let same = c.catalogue.ensures.same ∙ ap (λ (z : DatabaseData). z.catalogue) c.database.ensures.same in
    let here = subst (λ (k : CatalogueData). Judges k text c.judge.result) same c.judge.ensures in
    let read = subst (λ (r : Result (Unit {0}) IssueError). Judges d.catalogue text r) c.in-Ok.is here in
    let none = subst (λ (z : Contents). Numbers (always_open z) text (Err c.args.error)) (sym c.self.view_is) c.requires.numbers in
    subst (λ (z : Contents). Issues (always_open z) text (Err c.args.error) (always_open z)) c.self.view_is (issues_no_entry s text (outcomes_of i.told.log.items) d c.args.error read.0 refl history read.1 c.requires.short none)

pub returns-in-Err-clause-issues : goal.returns-in-Err-clause-issues
returns-in-Err-clause-issues c =
    let i = c.self.inside in
    let k : Contents = record { script = i.script; site = i.site; limit = i.held.limit; entries = i.held.entries } in
    let s = always_open k in
    let text = c.args.text.now in
    let d = i.told.engine in
    let history = logged_history i.script i.held.entries i.told.log.items d c.self.invariant.2 in
    let same = c.catalogue.ensures.same ∙ ap (λ (z : DatabaseData). z.catalogue) c.database.ensures.same in
    let here = subst (λ (k : CatalogueData). Judges k text c.judge.result) same c.judge.ensures in
    let refused = subst (λ (r : Result (Unit {0}) IssueError). Judges d.catalogue text r) c.in-Err.is here in
    subst (λ (z : Contents). Issues (always_open z) text (Err c.in-Err.refusal) (always_open z)) c.self.view_is (issues_refusal s s text (outcomes_of i.told.log.items) d c.in-Err.refusal refl history refl refused)

pub returns-in-Ok-clause-journal : goal.returns-in-Ok-clause-journal
returns-in-Ok-clause-journal c = λ is. subst (λ (e : IssueError). Numbers (always_open c.args.self.now) c.args.text.now (Err e)) is c.requires.numbers

pub returns-in-Err-clause-journal : goal.returns-in-Err-clause-journal
returns-in-Err-clause-journal c =
    let k = c.catalogue.result.now in
    let refused = subst (λ (r : Result (Unit {0}) IssueError). Judges k c.args.text.now r) c.in-Err.is c.judge.ensures in
    λ is. subst (IsRefusal k c.args.text.now) is refused
