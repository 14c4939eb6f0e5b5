use Rattle.std.proofs.Common.{◌≡◌, ◌-◌, ℕ, List, get_or, refl, sym, subst, arith}
use Rattle.td_changes.specs.Changes.{IsChangedBy}
use Rattle.td_relations.specs.Deltas.{DeltaData}
use Rattle.td_stamps.specs.declared.entry.Entry.{Entry}
use Rattle.td_replica.specs.Past.{HasNoPlace}
use Rattle.td_replica.specs.Seen.{Contents, always_open}
use Rattle.td_replay.specs.ForProofs.Past.{EndsWith}
use Rattle.td_replay.proofs.Changing.{changed_here, in_log}
use Rattle.td_replay.proofs.state.State.changed_by.Goals as goal

pub returns-in_default : goal.returns-in_default
returns-in_default c =
    let none = subst (λ (es : List Entry). HasNoPlace c.args.at es) c.entries.ensures.entries c.in_default.ensures in
    (refl, subst (λ (z : Contents). HasNoPlace c.args.at z.entries) c.self.view_is none)

pub index-requires : goal.index-requires
index-requires c =
    let i = c.self.inside in
    let k : Contents = record { script = i.script; site = i.site; limit = i.held.limit; entries = i.held.entries } in
    let p = subst (λ (es : List Entry). EndsWith c.args.at es c.in-Some.kept) c.entries.ensures.entries c.in-Some.ensures in
    let within = in_log (always_open k) i.told.log.items i.told.engine c.self.invariant.2 c.args.at c.in-Some.kept p in
    let count = p.count in
    omega (arith, count, within)

pub returns : goal.returns
returns c =
    let i = c.self.inside in
    let k : Contents = record { script = i.script; site = i.site; limit = i.held.limit; entries = i.held.entries } in
    let p = subst (λ (es : List Entry). EndsWith c.args.at es c.in-Some.kept) c.entries.ensures.entries c.in-Some.ensures in
    let q = c.index.result.now in
    let place : c.in-Some.kept - 1 ≡ p.place = let count = p.count in omega (arith, count) in
    let there : q ≡ get_or i.told.log.items p.place q = subst (λ (n : ℕ). q ≡ get_or i.told.log.items n q) place c.index.ensures in
    let here = changed_here (always_open k) i.told.log.items i.told.engine c.self.invariant.2 c.args.at c.in-Some.kept p q there in
    let told = subst (λ (ds : List (ℕ × DeltaData)). IsChangedBy (always_open k) c.args.at ds) (sym c.as_slice.ensures.value) here in
    (refl, subst (λ (z : Contents). IsChangedBy (always_open z) c.args.at c.as_slice.result.now) c.self.view_is told)
