use Rattle.std.proofs.Common.{◌≡◌, ◌↔◌, ◌⊎◌, ◌+◌, ◌==◌, ℕ, List, true, take, slice_index_or, ap, sym, subst, ◌∙◌, refl, arith}
use Rattle.std.specs.List.{Contains, list_any}
use Rattle.std.proofs.lemmas.List.{take_all}
use Rattle.td_rollback.proofs.Counted.{named}
use Rattle.td_rollback.proofs.Members.{number_pushed, number_there}
use Rattle.td_rollback.proofs.names.add.Goals.{then-not-contains+in_ok-push, else-not-contains}
use Rattle.td_rollback.proofs.names.add.Goals as goal

pub loop-place-preserved : goal.loop-place-preserved
loop-place-preserved c =
    let l = c.loop-place in
    let ps = c.args.places.now in
    let p = slice_index_or ps l.place-index 0 in
    elim c.if-not-contains.branch [
      | then-not-contains+in_ok-push w ↦
          subst (λ (ns : List ℕ). (n : ℕ) → Contains ns n ↔ (Contains (take (l.place-index + 1) ps) n ⊎ Contains c.args.names.now.items n)) (sym (ap (λ v. v.items) w.names-is))
          (number_pushed ps l.place-index p c.loop-place-test.true refl l.names.items c.args.names.now.items w.push.new.self.items l.invariant w.in_ok-push.ensures.items)
      | else-not-contains w ↦
          let there = named l.names.items p (subst (λ (ns : List ℕ). list_any (λ y. y == p) ns ≡ true) c.deref.ensures.value (sym c.contains.ensures.value ∙ w.if-not-contains.false)) in
          subst (λ (ns : List ℕ). (n : ℕ) → Contains ns n ↔ (Contains (take (l.place-index + 1) ps) n ⊎ Contains c.args.names.now.items n)) (sym (ap (λ v. v.items) w.names-is))
          (number_there ps l.place-index p c.loop-place-test.true refl l.names.items c.args.names.now.items l.invariant there)
    ]

pub returns : goal.returns
returns c =
    let end = c.loop-place-test.false in
    let l = c.loop-place in
    subst (λ (ps : List ℕ). (n : ℕ) → Contains l.names.items n ↔ (Contains ps n ⊎ Contains c.args.names.now.items n)) (take_all l.place-index c.args.places.now (omega (arith, end))) l.invariant
