use Rattle.std.proofs.Common.{ℕ, List, length, Ok, refl, sym, ap, subst, ◌∙◌, arith}
use Rattle.td_rollback.specs.Touched.{AreMore}
use Rattle.td_rollback.proofs.More.{union_is_more}
use Rattle.td_stamps.specs.declared.entry.Entry.{Entry}
use Rattle.td_replica.specs.Calls.{TakesBatch}
use Rattle.td_replica.specs.Seen.{Contents, always_open}
use Rattle.td_stamps.specs.Sets.{union}
use Rattle.td_replay.specs.Counted.{RunsIn, RunsOver}
use Rattle.td_replay.specs.Noted.{opened_by}
use Rattle.td_replay.specs.ForProofs.Told.{IsLogged}
use Rattle.td_replay.proofs.Counting.{from_the_opening}
use Rattle.td_replay.proofs.Taking.{nothing_new}
use Rattle.td_replay.proofs.state.State.take.Goals as goal

pub returns-then-fresh-eq0-clause-takes : goal.returns-then-fresh-eq0-clause-takes
returns-then-fresh-eq0-clause-takes c =
    let i = c.self.inside in
    let k : Contents = record { script = i.script; site = i.site; limit = i.held.limit; entries = i.held.entries } in
    let s = always_open k in
    let batch = c.args.batch.now in
    let none = c.in-Ok.ensures.answer.0 ∙ ap Ok (sym c.fresh-fresh.ensures ∙ c.if-fresh-eq0.true) in
    subst (λ (z : Contents). TakesBatch (always_open z) batch (record { fresh = 0; known = length batch }) (always_open z)) c.self.view_is
    (record { live = refl; fresh = none; known = omega arith; union = nothing_new s batch c.entries-entries.ensures.set none })

pub tell_more-requires-clause-logged : goal.tell_more-requires-clause-logged
tell_more-requires-clause-logged c =
    let i = c.self.inside in
    subst (λ (t : List ℕ). IsLogged t c.entries-entries.result.now i.told.log.items i.told.engine) (sym c.as_str-script.ensures)
    (subst (λ (es : List Entry). IsLogged i.script es i.told.log.items i.told.engine) (sym c.entries-entries.ensures.entries) c.self.invariant.2)

pub tell_more-requires-clause-more : goal.tell_more-requires-clause-more
tell_more-requires-clause-more c =
    let i = c.self.inside in
    let batch = c.args.batch.now in
    let more = union_is_more i.held.entries batch i.held.limit c.in-Ok.prepared.fresh c.entries-entries.ensures.set c.in-Ok.ensures.answer.0 in
    subst (λ (es : List Entry). AreMore es c.entries-more.result.now) (sym c.entries-entries.ensures.entries)
    (subst (λ (es : List Entry). AreMore i.held.entries es) (sym c.in-Ok.ensures.answer.1 ∙ sym c.entries-more.ensures.entries) more)

pub returns-in-Err-clause-counted : goal.returns-in-Err-clause-counted
returns-in-Err-clause-counted c = λ is n runs.
    let i = c.self.inside in
    let k : Contents = record { script = i.script; site = i.site; limit = i.held.limit; entries = i.held.entries } in
    let batch = c.args.batch.now in
    let here = subst (λ (z : Contents). RunsIn (always_open z) batch n) (sym c.self.view_is) runs in
    let over = from_the_opening (always_open k) batch n i.told.log.items i.told.engine c.self.invariant.2 here in
    c.tell_more.ensures.counted is n
    (subst (λ (es : List Entry). RunsOver (opened_by i.told.engine.catalogue) c.entries-entries.result.now es n) (sym (c.entries-more.ensures.entries ∙ c.in-Ok.ensures.answer.1))
    (subst (λ (es : List Entry). RunsOver (opened_by i.told.engine.catalogue) es (union i.held.entries batch) n) (sym c.entries-entries.ensures.entries) over))

pub returns-clause-counted : goal.returns-clause-counted
returns-clause-counted c = λ is n runs.
    let i = c.self.inside in
    let k : Contents = record { script = i.script; site = i.site; limit = i.held.limit; entries = i.held.entries } in
    let batch = c.args.batch.now in
    let here = subst (λ (z : Contents). RunsIn (always_open z) batch n) (sym c.self.view_is) runs in
    let over = from_the_opening (always_open k) batch n i.told.log.items i.told.engine c.self.invariant.2 here in
    c.tell_more.ensures.counted is n
    (subst (λ (es : List Entry). RunsOver (opened_by i.told.engine.catalogue) c.entries-entries.result.now es n) (sym (c.entries-more.ensures.entries ∙ c.in-Ok.ensures.answer.1))
    (subst (λ (es : List Entry). RunsOver (opened_by i.told.engine.catalogue) es (union i.held.entries batch) n) (sym c.entries-entries.ensures.entries) over))
