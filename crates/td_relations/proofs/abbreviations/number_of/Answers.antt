use Rattle.std.proofs.Common.{◌≡◌, ◌+◌, ◌-◌, ◌*◌, ◌<◌, ◌^◌, suc, drop, drop-drop, sym, ap, ◌∙◌, subst, arith}
use Rattle.td_relations.specs.ForProofs.Abbreviations.{more, number_of}
use Rattle.td_relations.proofs.Abbreviated.{low_power, next_power, whole_power}
use Rattle.td_relations.proofs.abbreviations.number_of.Goals as goal

pub overflow_mul-number : goal.overflow_mul-number
overflow_mul-number c = record { fits = omega (arith, c.loop-at.invariant.small, low_power (c.loop-at.at - c.args.from) (omega arith)) }

pub overflow_add-number : goal.overflow_add-number
overflow_add-number c = record { fits = omega (arith, c.digit.ensures.bound, c.loop-at.invariant.small, low_power (c.loop-at.at - c.args.from) (omega arith)) }

pub loop-at-init : goal.loop-at-init
loop-at-init c =
    let none : c.args.from - c.args.from ≡ 0 = omega arith in
    let all : c.args.from + 7 - c.args.from ≡ 7 = omega arith in
    record {
      small = subst (λ k. 0 < 257 ^ k) (sym none) (omega arith);
      spells = ap (λ n. number_of 0 n (drop c.args.from c.args.bytes.now)) all;
    }

pub loop-at-preserved : goal.loop-at-preserved
loop-at-preserved c =
    let one : suc (c.loop-at.at - c.args.from) ≡ c.loop-at.at + 1 - c.args.from = omega arith in
    let left : c.args.from + 7 - c.loop-at.at ≡ suc (c.args.from + 7 - (c.loop-at.at + 1)) = omega arith in
    let d = c.digit.result in
    record {
      small = subst (λ k. c.loop-at.number * 257 + d < 257 ^ k) one (next_power c.loop-at.number d (c.loop-at.at - c.args.from) c.loop-at.invariant.small c.digit.ensures.bound);
      spells =
          (λ i. number_of (c.loop-at.number * 257 + c.digit.ensures.value i) (c.args.from + 7 - (c.loop-at.at + 1)) (sym (drop-drop 1 c.loop-at.at c.args.bytes.now) i))
          ∙ ap (λ n. number_of c.loop-at.number n (drop c.loop-at.at c.args.bytes.now)) (sym left)
          ∙ c.loop-at.invariant.spells;
    }

pub overflow_mul-result : goal.overflow_mul-result
overflow_mul-result c =
    let ended = c.loop-at.auto in
    record { fits = omega (arith, whole_power c.loop-at.number (c.loop-at.at - c.args.from) (omega (arith, ended.at-end)) c.loop-at.invariant.small) }

pub overflow_add-result : goal.overflow_add-result
overflow_add-result c =
    let ended = c.loop-at.auto in
    record { fits = omega (arith, c.more.ensures.bound, whole_power c.loop-at.number (c.loop-at.at - c.args.from) (omega (arith, ended.at-end)) c.loop-at.invariant.small) }

pub returns-clause-number : goal.returns-clause-number
returns-clause-number c =
    let ended = c.loop-at.auto in
    let at : c.loop-at.at ≡ c.args.from + 7 = omega (arith, ended.at-end, c.loop-at-test.false) in
    let left : c.args.from + 7 - c.loop-at.at ≡ 0 = omega (arith, at) in
    ap (λ m. c.loop-at.number * 2 + m) (c.more.ensures.value ∙ ap (λ k. more (drop k c.args.bytes.now)) (sym at))
    ∙ ap (λ n. number_of c.loop-at.number n (drop c.loop-at.at c.args.bytes.now)) (sym left)
    ∙ c.loop-at.invariant.spells

pub returns-clause-bytes : goal.returns-clause-bytes
returns-clause-bytes c = λ k. (c.type_inv.bytes k).fits
