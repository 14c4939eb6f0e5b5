use Rattle.std.proofs.Common.{◌≡◌, ℕ, Option, None, Some, Bool, true, false, IfSome, refl}
use Rattle.std.specs.FinSet as set
use Rattle.std.specs.List.{Contains}
use Rattle.td_relations.specs.Sets.{body}
use Rattle.td_algebra.proofs.Lists.{in_contains}
use Rattle.td_algebra.proofs.Pairs.{of_entry}
use Rattle.td_bases.proofs.by_keys.place_for.Goals as goal

not_true : (b : Bool) → (b ≡ true → ⊥) → b ≡ false
not_true true never = absurd (never refl)
not_true false never = refl

either_way : (o : Option ℕ) (P Q : Type 0) → (P → Q) → IfSome o (λ _. P) → IfSome o (λ _. Q)
either_way None P Q f p = tt
either_way (Some i) P Q f p = f p

pub returns-clause-fresh : goal.returns-clause-fresh
returns-clause-fresh c =
    let r = c.args.relation.now in
    let ts = c.args.index.now.tuples in
    let t = c.args.more.now in
    let has = set.contains (body r) t in
    either_way c.replaceable_place.result (Contains ts t → ⊥) (has ≡ false)
    (λ absent. not_true has (λ there. absent (in_contains ts t (of_entry r ts c.requires.of.tuples t there))))
    c.replaceable_place.ensures.fresh
