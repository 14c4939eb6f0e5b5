use Rattle.std.proofs.Common.{◌≡◌, ℕ, true, List, Ok, Err, IfOk, refl, sym, subst, ap, ◌∙◌, arith}
use Rattle.std.proofs.lemmas.Option.{slice_get_within}
use Rattle.td_headings.specs.Catalogues.{CatalogueData}
use Rattle.td_stamps.specs.declared.entry.Entry.{Entry}
use Rattle.td_semantics.specs.Databases.{DatabaseData}
use Rattle.td_replica.specs.Past.{AsksAt, HasNoPlace, IsQueryOf}
use Rattle.td_replica.specs.Seen.{Contents, always_open}
use Rattle.td_replay.specs.ForProofs.Past.{EndsWith, SaysAfter, TellsQuery, Types}
use Rattle.td_replay.specs.ForProofs.Told.{outcomes_of}
use Rattle.td_replay.proofs.Earlier.{asks_at, is_query, past_refusal}
use Rattle.td_replay.proofs.Telling.{logged_history, history_catalogue}
use Rattle.td_replay.proofs.state.State.ask_at.Goals as goal
use Rattle.td_replay.proofs.state.State.ask_at.Goals.{in-Anew, in-Replay}

pub returns-in-Err-clause-asks : goal.returns-in-Err-clause-asks
returns-in-Err-clause-asks c =
    let i = c.self.inside in
    let k : Contents = record { script = i.script; site = i.site; limit = i.held.limit; entries = i.held.entries } in
    let s = always_open k in
    let d = i.told.engine in
    let text = c.args.text.now in
    let defines = history_catalogue i.script i.held.entries (outcomes_of i.told.log.items) d (logged_history i.script i.held.entries i.told.log.items d c.self.invariant.2) in
    let same = c.catalogue.ensures.same ∙ ap (λ (z : DatabaseData). z.catalogue) c.database.ensures.same in
    let tells = subst (λ (z : CatalogueData). TellsQuery z text (Err c.in-Err.error)) same c.in-Err.ensures in
    let said = past_refusal s d.catalogue refl defines text c.args.at c.in-Err.error tells in
    subst (λ (z : Contents). AsksAt (always_open z) text c.args.at (Err c.past_error.result)) c.self.view_is
    (subst (λ e. AsksAt s text c.args.at (Err e)) (sym c.past_error.ensures) said)

pub returns-in_default-clause-asks : goal.returns-in_default-clause-asks
returns-in_default-clause-asks c =
    let i = c.self.inside in
    let k : Contents = record { script = i.script; site = i.site; limit = i.held.limit; entries = i.held.entries } in
    let s = always_open k in
    let d = i.told.engine in
    let text = c.args.text.now in
    let x = c.in-Ok.query in
    let defines = history_catalogue i.script i.held.entries (outcomes_of i.told.log.items) d (logged_history i.script i.held.entries i.told.log.items d c.self.invariant.2) in
    let same = c.catalogue.ensures.same ∙ ap (λ (z : DatabaseData). z.catalogue) c.database.ensures.same in
    let t = subst (λ (z : CatalogueData). Types z text x) same c.in-Ok.ensures in
    let query = is_query s d.catalogue refl defines text c.args.at x t in
    let none = subst (λ (es : List Entry). HasNoPlace c.args.at es) c.entries-entries.ensures.entries c.in_default.ensures in
    let here : (true ≡ true) × IsQueryOf k.script text × HasNoPlace c.args.at k.entries = (refl, query, none) in
    subst (λ (z : Contents). (true ≡ true) × IsQueryOf z.script text × HasNoPlace c.args.at z.entries) c.self.view_is here

pub ask_anew-asked-requires-clause-kept : goal.ask_anew-asked-requires-clause-kept
ask_anew-asked-requires-clause-kept c =
    let p = c.in-Some.ensures in
    let count = p.count in
    let within = slice_get_within c.entries-entries.result.now p.place p.entry p.there in
    omega (arith, count, within)

pub ask_back-asked-requires-clause-logged : goal.ask_back-asked-requires-clause-logged
ask_back-asked-requires-clause-logged c =
    let i = c.self.inside in
    let p = subst (λ (es : List Entry). EndsWith c.args.at es c.in-Some.kept) c.entries-entries.ensures.entries c.in-Some.ensures in
    let within = slice_get_within i.held.entries p.place p.entry p.there in
    let count = p.count in
    (i.script, i.held.entries, c.self.invariant.2, omega (arith, count, within))

pub returns-in-Ok-asked-clause-asks : goal.returns-in-Ok-asked-clause-asks
returns-in-Ok-asked-clause-asks c =
    let i = c.self.inside in
    let k : Contents = record { script = i.script; site = i.site; limit = i.held.limit; entries = i.held.entries } in
    let s = always_open k in
    let d = i.told.engine in
    let text = c.args.text.now in
    let x = c.in-Ok.query in
    let n = c.in-Some.kept in
    let defines = history_catalogue i.script i.held.entries (outcomes_of i.told.log.items) d (logged_history i.script i.held.entries i.told.log.items d c.self.invariant.2) in
    let same = c.catalogue.ensures.same ∙ ap (λ (z : DatabaseData). z.catalogue) c.database.ensures.same in
    let t = subst (λ (z : CatalogueData). Types z text x) same c.in-Ok.ensures in
    let p = subst (λ (es : List Entry). EndsWith c.args.at es n) c.entries-entries.ensures.entries c.in-Some.ensures in
    let within = slice_get_within i.held.entries p.place p.entry p.there in
    let count = p.count in
    let told : IfOk c.match-way.asked (SaysAfter i.script i.held.entries n x) = elim c.match-way.branch [
      | in-Anew w ↦
          let by_script = subst (λ (text : List ℕ). IfOk w.ask_anew-asked.result (SaysAfter text c.entries-entries.result.now n x)) w.as_str-script.ensures w.ask_anew-asked.ensures.says in
          let by_entries = subst (λ (es : List Entry). IfOk w.ask_anew-asked.result (SaysAfter i.script es n x)) c.entries-entries.ensures.entries by_script in
          subst (λ r. IfOk r (SaysAfter i.script i.held.entries n x)) (sym w.asked-is) by_entries
      | in-Replay w ↦ subst (λ r. IfOk r (SaysAfter i.script i.held.entries n x)) (sym w.asked-is) (w.ask_back-asked.ensures i.script i.held.entries c.self.invariant.2 (omega (arith, count, within)))
    ] in
    let says : SaysAfter i.script i.held.entries n x c.in-Ok-asked.asked = rw c.in-Ok-asked.is at told in
    let here = asks_at s d.catalogue refl defines text c.args.at x t n p c.in-Ok-asked.asked says in
    subst (λ (z : Contents). AsksAt (always_open z) text c.args.at (Ok c.in-Ok-asked.asked)) c.self.view_is here
