use Rattle.std.proofs.Common.{◌≡◌, [], ℕ, List, All, refl, ap, sym, subst, ◌∙◌, rules}
use Rattle.std.specs.Vec.Iter.{into_iter_items}
use Rattle.std.proofs.lemmas.List.{nil_from_length}
use Rattle.std.proofs.lemmas.List.Elements.{All-head, All-tail}
use Rattle.td_bases.specs.Bases.{BaseData}
use Rattle.td_headings.specs.Catalogues.{CatalogueData}
use Rattle.td_relvars.specs.Keys.{key_at}
use Rattle.td_semantics.specs.Databases.{Belongs}
use Rattle.td_semantics.specs.Given.{with_given}
use Rattle.td_assign.specs.ForProofs.Given.{AreDistinct, IsChange}
use Rattle.td_assign.specs.ForProofs.Lists.{IsKeyed, change_of, changes_of, given_to}
use Rattle.td_assign.proofs.Replacing.{given_nothing, put_first}
use Rattle.td_assign.proofs.running.put_bases.Goals as goal

pub loop-target-init : goal.loop-target-init
loop-target-init c =
    let d = c.args.database.now in
    let seen : c.args.bases.items ≡ into_iter_items c.into_iter-target-iterator.result = search rules in
    let changes = ap changes_of seen in
    record {
      same = refl;
      left = ap (λ cs. with_given (given_to cs) d.stored) (sym changes);
      distinct = subst AreDistinct changes c.requires.changes.distinct;
      each = subst (All (IsChange d.catalogue)) changes c.requires.changes.each;
      keyed = subst (All (IsKeyed d.catalogue)) seen c.requires.keyed;
    }

pub set-requires-clause-belongs : goal.set-requires-clause-belongs
set-requires-clause-belongs c =
    let k = c.args.database.now.catalogue in
    let p : ℕ × BaseData = (c.in-Some.target, c.in-Some.base) in
    let rest = into_iter_items c.next.new.self in
    subst (λ (z : CatalogueData). Belongs z p.0 p.1.rows) (sym c.loop-target.invariant.same)
    (All-head (IsChange k) (change_of p) (changes_of rest) (subst (λ (ps : List (ℕ × BaseData)). All (IsChange k) (changes_of ps)) c.in-Some.ensures.steps.0 c.loop-target.invariant.each))

pub set-requires-clause-key : goal.set-requires-clause-key
set-requires-clause-key c =
    let k = c.args.database.now.catalogue in
    let p : ℕ × BaseData = (c.in-Some.target, c.in-Some.base) in
    let rest = into_iter_items c.next.new.self in
    All-head (IsKeyed k) p rest (subst (All (IsKeyed k)) c.in-Some.ensures.steps.0 c.loop-target.invariant.keyed) ∙ ap (λ (z : CatalogueData). key_at z p.0) (sym c.loop-target.invariant.same)

pub loop-target-preserved : goal.loop-target-preserved
loop-target-preserved c =
    let k = c.args.database.now.catalogue in
    let p : ℕ × BaseData = (c.in-Some.target, c.in-Some.base) in
    let rest = into_iter_items c.next.new.self in
    let before = c.loop-target.database.stored in
    let step = c.in-Some.ensures.steps.0 in
    let distinct = subst (λ (ps : List (ℕ × BaseData)). AreDistinct (changes_of ps)) step c.loop-target.invariant.distinct in
    record {
      same = c.set.ensures.catalogue ∙ c.loop-target.invariant.same;
      left =
          ap (with_given (given_to (changes_of rest))) c.set.ensures.stored
          ∙ sym (put_first p.0 p.1.rows (given_to (changes_of rest)) before distinct.0)
          ∙ sym (ap (λ (ps : List (ℕ × BaseData)). with_given (given_to (changes_of ps)) before) step) ∙ c.loop-target.invariant.left;
      distinct = distinct.1;
      each = All-tail (IsChange k) (change_of p) (changes_of rest) (subst (λ (ps : List (ℕ × BaseData)). All (IsChange k) (changes_of ps)) step c.loop-target.invariant.each);
      keyed = All-tail (IsKeyed k) p rest (subst (All (IsKeyed k)) step c.loop-target.invariant.keyed);
    }

pub returns : goal.returns
returns c =
    let l = c.loop-target in
    let none : into_iter_items l.target-iterator ≡ [] = nil_from_length _ (sym l.target-iterator.rest.ok.0 ∙ c.in-None.ensures.steps.0) in
    let stored =
    sym (given_nothing l.database.stored)
    ∙ sym (ap (λ (ps : List (ℕ × BaseData)). with_given (given_to (changes_of ps)) l.database.stored) none)
    ∙ l.invariant.left
    in
    λ i. record { catalogue = l.invariant.same i; stored = stored i }
