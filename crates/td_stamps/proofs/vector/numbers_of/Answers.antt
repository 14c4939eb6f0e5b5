use Rattle.std.proofs.Common.{◌≡◌, ◌-◌, ◌<◌, ◌≤◌, ℕ, List, Vec, Global, length, take, get_or, sym, ap, subst, ◌∙◌, arith, ◌+◌}
use Rattle.std.proofs.lemmas.List.{take_all}
use Rattle.std.proofs.lemmas.Bool.Decides.{nat_tests}
use Rattle.td_stamps.specs.declared.entry.Entry.{Entry}
use Rattle.td_stamps.specs.ForProofs.{AreNumbers}
use Rattle.td_stamps.proofs.Gaps.{number_from}
use Rattle.td_stamps.proofs.Tables.{next_number, no_numbers, not_next_number}
use Rattle.td_stamps.proofs.vector.numbers_of.Goals as goal
use Rattle.td_stamps.proofs.vector.numbers_of.Goals.{then-entry-number_at+in_ok-set_number_at, else-entry-number_at}

pub loop-entry-init : goal.loop-entry-init
loop-entry-init c = record {
  numbers = no_numbers c.new-numbers.result.items c.new-numbers.ensures.items;
  few = omega (arith, ap length c.new-numbers.ensures.items);
}

pub loop-entry-preserved : goal.loop-entry-preserved
loop-entry-preserved c =
    let xs = c.args.entries.now in
    let i = c.loop-entry.entry-index in
    let e = c.entry-item.result in
    let ns = c.loop-entry.numbers.items in
    let within : i < length xs = omega arith in
    let low = number_from xs i e within c.entry-item.is c.requires.ranges in
    let so = c.loop-entry.invariant.numbers in
    let number : c.number_at.result ≡ get_or ns e.site 0 = c.number_at.ensures ∙ ap (λ (l : List ℕ). get_or l e.site 0) c.deref.ensures.value in
    elim c.if-entry-number_at.branch [
      | then-entry-number_at+in_ok-set_number_at w ↦
          let tested : e.seq - 1 ≡ c.number_at.result = grind (arith, nat_tests) in
          let is : c.if-entry-number_at.numbers.items ≡ w.set_number_at.new.numbers.items = ap (λ (v : Vec ℕ Global). v.items) w.numbers-is in
          record {
            numbers = subst (AreNumbers (take (i + 1) xs)) (sym is) (next_number xs i e ns within c.entry-item.is low so c.requires.set (tested ∙ number) w.set_number_at.new.numbers.items w.in_ok-set_number_at.ensures.numbers);
            few = subst (λ (l : List ℕ). length l ≤ 65536) (sym is) (w.in_ok-set_number_at.ensures.few c.loop-entry.invariant.few);
          }
      | else-entry-number_at w ↦
          let is : c.if-entry-number_at.numbers.items ≡ ns = ap (λ (v : Vec ℕ Global). v.items) w.numbers-is in
          let tested : e.seq - 1 ≡ c.number_at.result → ⊥ = λ same. absurd (grind (arith, nat_tests)) in
          record {
            numbers = subst (AreNumbers (take (i + 1) xs)) (sym is) (not_next_number xs i e ns within c.entry-item.is low so (λ next. tested (next ∙ sym number)));
            few = subst (λ (l : List ℕ). length l ≤ 65536) (sym is) c.loop-entry.invariant.few;
          }
    ]

pub returns-clause-numbers : goal.returns-clause-numbers
returns-clause-numbers c =
    let xs = c.args.entries.now in
    let all : take c.loop-entry.entry-index xs ≡ xs = take_all c.loop-entry.entry-index xs (omega arith) in
    subst (λ (l : List Entry). AreNumbers l c.loop-entry.numbers.items) all c.loop-entry.invariant.numbers
