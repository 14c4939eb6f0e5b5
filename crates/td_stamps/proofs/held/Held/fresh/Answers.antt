use Rattle.std.proofs.Common.{◌≡◌, ◌+◌, List, ◌++◌, ◌∷◌, [], Bool, true, false, not, take, drop, refl, sym, ap, ◌∙◌}
use Rattle.std.specs.List.{list_any}
use Rattle.td_stamps.specs.declared.entry.Entry.{Entry}
use Rattle.td_stamps.specs.declared.entry.Stamp.{Stamp}
use Rattle.td_stamps.specs.Checks.{fresh_of}
use Rattle.td_stamps.proofs.Fresh.{at, passed_next, one_more, known_next, fresh_next, seen_by_stamp, seen_in_held, not_seen}
use Rattle.td_stamps.proofs.held.Held.fresh.Goals as goal

was_there : (b : Bool) → false ≡ not b → b ≡ true
was_there true h = refl
was_there false h = h

was_new : (b : Bool) → true ≡ not b → b ≡ false
was_new true h = h
was_new false h = refl

pub loop-entry-preserved-then-not-branch : goal.loop-entry-preserved-then-not-branch
loop-entry-preserved-then-not-branch c =
    let held = c.args.self.now.entries in
    let batch = c.args.batch.now in
    let i = c.loop-entry.entry-index in
    let e = c.entry-item.result in
    let lt = c.loop-entry-test.true in
    let is = c.entry-item.is in
    let found = was_there _ (sym c.if-not-branch.true ∙ c.in_ok-insert.ensures.added) in
    record {
      passed = λ s. passed_next s (take i batch) e c.stamp.result _ _ c.stamp.ensures (c.loop-entry.invariant.passed s) (c.in_ok-insert.ensures.updates.0 s) ∙ sym (ap (list_any (at s)) (one_more held batch i e lt is));
      fresh = λ clear. known_next held batch i e lt is c.loop-entry.fresh.items
          (seen_by_stamp held batch i e lt is clear (sym (ap (λ (s : Stamp). list_any (at s) (take i batch)) c.stamp.ensures) ∙ sym (c.loop-entry.invariant.passed c.stamp.result) ∙ found))
          (c.loop-entry.invariant.fresh clear);
    }

pub loop-entry-preserved-then-contains : goal.loop-entry-preserved-then-contains
loop-entry-preserved-then-contains c =
    let held = c.args.self.now.entries in
    let batch = c.args.batch.now in
    let i = c.loop-entry.entry-index in
    let e = c.entry-item.result in
    let lt = c.loop-entry-test.true in
    let is = c.entry-item.is in
    record {
      passed = λ s. passed_next s (take i batch) e c.stamp.result _ _ c.stamp.ensures (c.loop-entry.invariant.passed s) (c.in_ok-insert.ensures.updates.0 s) ∙ sym (ap (list_any (at s)) (one_more held batch i e lt is));
      fresh = λ clear. known_next held batch i e lt is c.loop-entry.fresh.items (seen_in_held held batch i e lt is (sym c.contains.ensures ∙ c.if-contains.true)) (c.loop-entry.invariant.fresh clear);
    }

pub loop-entry-preserved : goal.loop-entry-preserved
loop-entry-preserved c =
    let held = c.args.self.now.entries in
    let batch = c.args.batch.now in
    let i = c.loop-entry.entry-index in
    let e = c.entry-item.result in
    let lt = c.loop-entry-test.true in
    let is = c.entry-item.is in
    let none = was_new _ (sym c.if-not-branch.false ∙ c.in_ok-insert.ensures.added) in
    let pushed : c.push.new.self.items ≡ c.loop-entry.fresh.items ++ e ∷ [] = c.in_ok-push.ensures.items ∙ ap (λ (v : Entry). c.loop-entry.fresh.items ++ v ∷ []) c.in_ok-copy.ensures in
    record {
      passed = λ s. passed_next s (take i batch) e c.stamp.result _ _ c.stamp.ensures (c.loop-entry.invariant.passed s) (c.in_ok-insert.ensures.updates.0 s) ∙ sym (ap (list_any (at s)) (one_more held batch i e lt is));
      fresh = λ clear. ap (λ (l : List Entry). l ++ fresh_of (held ++ take (i + 1) batch) (drop (i + 1) batch)) pushed
          ∙ fresh_next held batch i e lt is c.loop-entry.fresh.items
          (not_seen held batch i e lt is (sym c.contains.ensures ∙ c.if-contains.false)
          (sym (ap (λ (s : Stamp). list_any (at s) (take i batch)) c.stamp.ensures) ∙ sym (c.loop-entry.invariant.passed c.stamp.result) ∙ none))
          (c.loop-entry.invariant.fresh clear);
    }
