use Rattle.std.proofs.Common.{◌≡◌, List, [], sym, subst, ◌∙◌}
use Rattle.std.proofs.lemmas.List.{nil_from_length}
use Rattle.std.specs.Vec.Iter.{into_iter_items}
use Rattle.td_stamps.specs.declared.entry.Entry.{Entry}
use Rattle.td_checked_meetings.specs.ForProofs.{IsSequenced}
use Rattle.td_checked_meetings.proofs.Sequences.{all_beyond, all_following}
use Rattle.td_checked_meetings.proofs.sifting.in_sequence.Goals as goal

pub loop-entry-preserved : goal.loop-entry-preserved
loop-entry-preserved c =
    let l = c.loop-entry in
    let all = c.args.entries.items in
    c.in_ok-beyond.ensures all (into_iter_items c.next.new.self)
    (subst (λ (rest : List Entry). IsSequenced c.args.vector.now all rest l.numbers l.following.items l.beyond) c.in-Some.ensures.steps.0 l.invariant)

pub returns-clause-entries : goal.returns-clause-entries
returns-clause-entries c =
    let l = c.loop-entry in
    let none : into_iter_items l.entry-iterator ≡ [] = nil_from_length _ (sym l.entry-iterator.rest.ok.0 ∙ c.in-None.ensures.steps.0) in
    all_following c.args.vector.now c.args.entries.items (into_iter_items l.entry-iterator) l.numbers l.following.items l.beyond l.invariant none

pub returns-clause-beyond : goal.returns-clause-beyond
returns-clause-beyond c =
    let l = c.loop-entry in
    let none : into_iter_items l.entry-iterator ≡ [] = nil_from_length _ (sym l.entry-iterator.rest.ok.0 ∙ c.in-None.ensures.steps.0) in
    all_beyond c.args.vector.now c.args.entries.items (into_iter_items l.entry-iterator) l.numbers l.following.items l.beyond l.invariant none
