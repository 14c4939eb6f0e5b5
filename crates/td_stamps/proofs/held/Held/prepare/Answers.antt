use Rattle.std.proofs.Common.{◌≡◌, List, Ok, true, length, sym, ap, subst, ◌∙◌, ◌-◌, arith}
use Rattle.std.specs.List.{list_all}
use Rattle.std.proofs.lemmas.Option.{MatchOption-at_some}
use Rattle.td_stamps.specs.declared.entry.Entry.{Entry}
use Rattle.td_stamps.specs.Entries.{in_range}
use Rattle.td_stamps.specs.Sets.{Holding}
use Rattle.td_stamps.specs.ForProofs.{Joins}
use Rattle.td_stamps.specs.Checks.{shared_front}
use Rattle.td_stamps.proofs.Fronts.{joined_front}
use Rattle.td_stamps.proofs.SetLemmas.{check_full, check_fresh}
use Rattle.td_stamps.proofs.held.Held.prepare.Goals as goal

pub returns-then-len-self-clause-answer : goal.returns-then-len-self-clause-answer
returns-then-len-self-clause-answer c =
    let batch = c.args.batch.now in
    let joined = c.in-Some.entries.items in
    let so = subst (λ (held : List Entry). Joins held batch joined) c.deref.ensures.value (MatchOption-at_some _ _ _ c.in-Some.is c.in_ok-entries.ensures) in
    let ranges : list_all in_range batch ≡ true = sym c.all_in_range.ensures ∙ c.if-not-all_in_range.false in
    rw (← c.self.view_is) (check_full c.self.inside.entries.items c.self.inside.limit batch joined c.self.invariant.0 ranges so (omega (arith, c.in-Some.entries.ok.0)))

pub overflow_sub-fresh : goal.overflow_sub-fresh
overflow_sub-fresh c =
    let so = subst (λ (held : List Entry). Joins held c.args.batch.now c.in-Some.entries.items) c.deref.ensures.value (MatchOption-at_some _ _ _ c.in-Some.is c.in_ok-entries.ensures) in
    let held_len : length c.self.inside.entries.items ≡ length c.args.self.now.entries = ap (λ (h : Holding). length h.entries) c.self.view_is in
    omega (arith, so.grows, c.in-Some.entries.ok.0)

pub invariant_of-result : goal.invariant_of-result
invariant_of-result c = let so = MatchOption-at_some _ _ _ c.in-Some.is c.in_ok-entries.ensures in (so.set, so.ranges)

pub returns-clause-answer : goal.returns-clause-answer
returns-clause-answer c =
    let held = c.self.inside.entries.items in
    let batch = c.args.batch.now in
    let joined = c.in-Some.entries.items in
    let so = subst (λ (held : List Entry). Joins held batch joined) c.deref.ensures.value (MatchOption-at_some _ _ _ c.in-Some.is c.in_ok-entries.ensures) in
    let ranges : list_all in_range batch ≡ true = sym c.all_in_range.ensures ∙ c.if-not-all_in_range.false in
    let fresh = check_fresh held c.self.inside.limit batch joined c.self.invariant.0 ranges so (omega (arith, c.in-Some.entries.ok.0)) in
    let held_len : length c.self.inside.entries.items ≡ length c.args.self.now.entries = ap (λ (h : Holding). length h.entries) c.self.view_is in
    let count : length joined - length held ≡ c.len-2.result - c.len-3.result = omega (arith, c.in-Some.entries.ok.0) in
    let front : c.tied_front-front.result ≡ shared_front held joined = rw (c.deref-2.ensures.value, c.deref-3.ensures.value) at c.tied_front-front.ensures ∙ joined_front held batch joined c.self.invariant.0 so in
    rw (← c.self.view_is) (fresh ∙ ap Ok count, so.is, front)

pub returns-clause-few : goal.returns-clause-few
returns-clause-few c =
    let so = subst (λ (held : List Entry). Joins held c.args.batch.now c.in-Some.entries.items) c.deref.ensures.value (MatchOption-at_some _ _ _ c.in-Some.is c.in_ok-entries.ensures) in
    let held_len : length c.self.inside.entries.items ≡ length c.args.self.now.entries = ap (λ (h : Holding). length h.entries) c.self.view_is in
    omega (arith, so.few, c.in-Some.entries.ok.0)
