use Rattle.std.proofs.Common.{◌≡◌, ◌++◌, ◌∷◌, [], ℕ, List, All, append_assoc, append-nil, ap, sym, subst, ◌∙◌, rules, arith}
use Rattle.std.specs.Vec.Iter.{into_iter_items}
use Rattle.std.proofs.lemmas.List.{map-append, nil_from_length}
use Rattle.std.proofs.lemmas.List.Elements.{All-head, All-push, All-tail}
use Rattle.td_bases.specs.Bases.{BaseData}
use Rattle.td_assign.specs.ForProofs.Given.{IsChange}
use Rattle.td_assign.specs.ForProofs.Lists.{IsKeyed, change_of, changes_of}
use Rattle.td_assign.specs.declared.changes.Change.{Change}
use Rattle.td_assign.proofs.running.bases_of.Goals as goal

pub loop-change-init : goal.loop-change-init
loop-change-init c =
    let k = c.args.database.now.catalogue in
    let all = into_iter_items c.into_iter-change-iterator.result in
    let seen : c.args.changes.items ≡ all = search rules in
    let none : c.in_ok-bases.bases.items ≡ [] = c.in_ok-bases.ensures.items in
    record {
      made = seen ∙ ap (λ (ps : List (ℕ × BaseData)). changes_of ps ++ all) (sym none);
      keyed = subst (All (IsKeyed k)) (sym none) (λ i d lt. absurd (omega (arith, lt)));
      each = subst (All (IsChange k)) seen c.requires.each;
    }

pub make_base-requires : goal.make_base-requires
make_base-requires c = All-head (IsChange c.args.database.now.catalogue) c.in-Some.change (into_iter_items c.next.new.self) (subst (All (IsChange c.args.database.now.catalogue)) c.in-Some.ensures.steps.0 c.loop-change.invariant.each)

pub loop-change-preserved : goal.loop-change-preserved
loop-change-preserved c =
    let k = c.args.database.now.catalogue in
    let rest = into_iter_items c.next.new.self in
    let x = c.in-Some.change in
    let before = c.loop-change.bases.items in
    let p : ℕ × BaseData = (x.target, c.in_ok-make_base.field-0) in
    let step = c.in-Some.ensures.steps.0 in
    let pushed : c.push.new.self.items ≡ before ++ p ∷ [] = c.in_ok-push.ensures.items in
    let one : change_of p ≡ x = ap (λ (b : BaseData). change_of (x.target, b)) c.in_ok-make_base.ensures in
    let more : changes_of c.push.new.self.items ≡ changes_of before ++ x ∷ [] = ap changes_of pushed ∙ map-append change_of before (p ∷ []) ∙ ap (λ (y : Change). changes_of before ++ y ∷ []) one in
    record {
      made = c.loop-change.invariant.made ∙ ap (λ (ys : List Change). changes_of before ++ ys) step ∙ sym (append_assoc (changes_of before) (x ∷ []) rest) ∙ ap (λ (ys : List Change). ys ++ rest) (sym more);
      keyed = subst (All (IsKeyed k)) (sym pushed) (All-push (IsKeyed k) before p c.loop-change.invariant.keyed (ap (λ (b : BaseData). b.key) c.in_ok-make_base.ensures));
      each = All-tail (IsChange k) x rest (subst (All (IsChange k)) step c.loop-change.invariant.each);
    }

pub returns-clause-changes : goal.returns-clause-changes
returns-clause-changes c =
    let l = c.loop-change in
    let none : into_iter_items l.change-iterator ≡ [] = nil_from_length _ (sym l.change-iterator.rest.ok.0 ∙ c.in-None.ensures.steps.0) in
    sym (l.invariant.made ∙ ap (λ (ys : List Change). changes_of l.bases.items ++ ys) none ∙ append-nil (changes_of l.bases.items))

pub returns-clause-keyed : goal.returns-clause-keyed
returns-clause-keyed c = c.loop-change.invariant.keyed
