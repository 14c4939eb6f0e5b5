use Rattle.std.proofs.Common.{◌≡◌, ◌<◌, ℕ, get_or, refl, ap, ◌∙◌, arith}
use Rattle.std.specs.FinMap as map
use Rattle.std.proofs.lemmas.Bool.Decides.{nat_tests}
use Rattle.td_stamps.specs.Vectors.{VersionVector}
use Rattle.td_stamps.proofs.Tables.{has_all_numbers, none_before, with_number, without_number}
use Rattle.td_stamps.proofs.vector.Vector.from_numbers.Goals as goal
use Rattle.td_stamps.proofs.vector.Vector.from_numbers.Goals.{then-numbers-site-gt0+in_ok-set, else-numbers-site-gt0}

pub loop-site-init : goal.loop-site-init
loop-site-init c = none_before c.args.numbers.now c.new-vector.result c.new-vector.ensures c.requires.first

pub loop-site-preserved : goal.loop-site-preserved
loop-site-preserved c =
    let ns = c.args.numbers.now in
    let v = c.loop-site.vector in
    let site = c.loop-site.site in
    elim c.if-numbers-site-gt0.branch [
      | then-numbers-site-gt0+in_ok-set w ↦
          let n = get_or ns site 0 in
          let is : c.if-numbers-site-gt0.vector ≡ map.insert v site n = w.vector-is ∙ w.in_ok-set.ensures.ok in
          let some : 0 < n = grind (arith, nat_tests) in
          λ q. ap (λ (m : VersionVector). map.get m q) is ∙ with_number ns v site c.loop-site.invariant n refl some q
      | else-numbers-site-gt0 w ↦
          let none : get_or ns site 0 ≡ 0 = grind (arith, nat_tests) in
          λ q. ap (λ (m : VersionVector). map.get m q) w.vector-is ∙ without_number ns v site c.loop-site.invariant none q
    ]
