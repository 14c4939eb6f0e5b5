-- What is true after changes of relvars of which every test was true.
use Rattle.std.proofs.Common.{◌≡◌, ◌↔◌, ℕ, Bool, true, false, IsTrue, ◌==◌, if◌then◌else◌, eqb-true, eq-eqb, inl, inr, List, [], ◌∷◌, Option, None, Some, MatchOption, slice_get, Result, Ok, refl, ap, sym, ◌∙◌, subst, true≢false, ⊎_elim, ◌+◌, ◌<◌, zero, suc, length, get_or, take, arith}
use Rattle.std.specs.List.{Contains, list_any}
use Rattle.std.specs.Borrow.{Bor}
use Rattle.std.proofs.lemmas.List.Elements.{Contains-append_cases}
use Rattle.std.proofs.lemmas.Option.{get_or_from_slice_get, slice_get_within}
use Rattle.td_tuples.proofs.Filters.{taken}
use Rattle.td_values.specs.Data.{no_attrs}
use Rattle.td_values.specs.Rows.{RowsData}
use Rattle.td_relations.specs.Deltas.{DeltaData}
use Rattle.td_typing.proofs.KindLemmas.{some_same}
use Rattle.td_typed_trees.specs.declared.expression.Expression.{Expression}
use Rattle.td_typed_trees.specs.declared.tree.Typed.{Typed}
use Rattle.td_algebra.proofs.Lists.{In, any_in, contains_in, in_contains}
use Rattle.td_algebra.proofs.Told.{key_after}
use Rattle.td_algebra.specs.Keys.{TellApart, TellApartFrom}
use Rattle.td_algebra.specs.Raising.{and_then}
use Rattle.td_algebra.specs.declared.errors.Stop.{Stop}
use Rattle.td_operators.specs.Values.{truth_of}
use Rattle.td_headings.specs.Catalogues.{CatalogueData}
use Rattle.td_headings.specs.Definitions.{Defined}
use Rattle.td_headings.specs.Expressions.{IsTree, constraint_at, constraint_of, no_tuple, reads}
use Rattle.td_headings.specs.Reached.{ReadsRelvar}
use Rattle.td_values.specs.declared.TypeKind.TheVariants as kind
use Rattle.td_headings.specs.declared.defined.Test.TheVariants as test
use Rattle.td_headings.proofs.ReadLemmas.{reads_those}
use Rattle.td_headings.proofs.WellTyped.{all_typed, constraint_tree}
use Rattle.td_meaning.specs.Mean.{Relvars}
use Rattle.td_semantics.specs.Differences.{ChangesBy, LeadOver}
use Rattle.td_semantics.specs.Tests.{is_key}
use Rattle.td_semantics.specs.Trees.{IsIn, tree_means}
use Rattle.td_integrity.specs.Changes.{PassedBefore}
use Rattle.td_integrity.specs.ForProofs.Tested.{StandsAt}
use Rattle.td_integrity.specs.ForProofs.Changed.{Changes, ConstraintBefore, IsChanged, IsUntouched, KeyBefore, KeyOf, ReadsNone, change_to, is_changed}
use Rattle.td_integrity.proofs.Apart.{keys_apart}
use Rattle.td_integrity.proofs.Keys.{tested}
use Rattle.td_integrity.proofs.TreeReads.{trees_alike}

-- ---- constraints
-- a tree that reads nothing that was changed is true as before
pub tree_still_true : (c : CatalogueData) (u : Typed) (before now : Relvars) (changes : Changes) → Defined c → IsTree c no_tuple u kind.Boolean → LeadOver before now changes → and_then (tree_means c before u no_attrs) truth_of ≡ Ok true
    → ((n : ℕ) → ReadsRelvar c.origins u n → IsChanged changes n → ⊥) → and_then (tree_means c now u no_attrs) truth_of ≡ Ok true
tree_still_true c u before now changes defined tree lead held never =
    ap (λ m. and_then m truth_of) (trees_alike c defined u kind.Boolean tree now before (λ n h. lead.all n (λ d there. never n h (d, there)))) ∙ held

-- one that reads nothing that was changed is true as before
pub still_true : (c : CatalogueData) (x : Expression) (now : Relvars) (changes : Changes) → Defined c → IsIn c x → ConstraintBefore c now changes x → IsUntouched changes x → and_then (tree_means c now x.tree no_attrs) truth_of ≡ Ok true
still_true c x now changes defined is b never =
    let those = reads_those c (all_typed c defined) x is.under in
    ap (λ m. and_then m truth_of) (trees_alike c defined x.tree x.kind is.tree now b.before (λ n h. b.lead.all n (λ d there. never n ((those.members n).1 h) (d, there))))
    ∙ b.held

-- ---- keys
pub ok_same : {A : Type 0} (a b : A) → ◌≡◌ {A = Result A Stop} (Ok a) (Ok b) → a ≡ b
ok_same a b h = cc

module _ (key : List (List ℕ)) (changes : Changes) (n : ℕ) (r : RowsData) (k : KeyOf changes n key r) where
  abbrev Test : Result RowsData Stop → Result Bool Stop
  Test m = and_then m (λ o. Ok (is_key key o.tuples))

  pub key_stays : (IsChanged changes n → ⊥) → true ≡ is_key key r.tuples
  key_stays never =
      sym (ok_same (is_key key r.tuples) true (sym (ap Test k.is) ∙ ap Test (k.known.lead.all n (λ d h. never (d, h))) ∙ k.known.held))

  pub key_told : (d : DeltaData) (b : Bool) → Contains changes (n, d) → IsTrue b ↔ TellApartFrom key d.inserted r → b ≡ is_key key r.tuples
  key_told d b there says =
      let w : ChangesBy k.known.before k.now n d = k.known.lead.only (n, d) there in
      let same : w.after ≡ r = ok_same w.after r (sym w.is ∙ k.is) in
      let held : is_key key w.before.tuples ≡ true = ok_same (is_key key w.before.tuples) true (sym (ap Test w.was) ∙ k.known.held) in
      let apart : TellApart key w.before = (keys_apart key w.before w.was_rows.ascending).0 held in
      let told = key_after key w.before w.after d apart w.difference in
      let here : IsTrue b ↔ TellApart key w.after = (λ h. told.1 (subst (TellApartFrom key d.inserted) (sym same) (says.0 h)), λ h. says.1 (subst (TellApartFrom key d.inserted) same (told.0 h))) in
      subst (λ (q : RowsData). b ≡ is_key key q.tuples) same (tested key w.after b w.is_rows.ascending here)

  pub heading_told : (d : DeltaData) → Contains changes (n, d) → d.inserted.heading ≡ r.heading
  heading_told d there =
      let w : ChangesBy k.known.before k.now n d = k.known.lead.only (n, d) there in
      w.difference.inserted.heading ∙ w.one_heading ∙ ap (λ (q : RowsData). q.heading) (ok_same w.after r (sym w.is ∙ k.is))

-- ---- constraints that read nothing that was changed
pub the_only : {A : Type 0} (w v : A) → Contains (w ∷ []) v → v ≡ w
the_only w v (zero, lt, is) = sym is
the_only w v (suc n, lt, is) = absurd (omega (arith, lt))

pub none_more : (c : CatalogueData) (place : ℕ) (cs : Changes) (i : ℕ) (x : ℕ × DeltaData) → i < length cs → x ≡ get_or cs i x → ReadsNone c (take i cs) place → ((u : Typed) → constraint_at c place ≡ Some u → ReadsRelvar c.origins u x.0 → ⊥) → ReadsNone c (take (i + 1) cs) place
none_more c place cs i x lt is none one u here n read change = ⊎_elim
    (λ (front : Contains (take i cs) (n, change.0)). none u here n read (change.0, front))
    (λ (last : Contains (x ∷ []) (n, change.0)). one u here (subst (ReadsRelvar c.origins u) (ap (λ (w : ℕ × DeltaData). w.0) (the_only x (n, change.0) last)) read))
    (Contains-append_cases (take i cs) (x ∷ []) (n, change.0) (subst (λ (ws : Changes). Contains ws (n, change.0)) (taken cs i x lt is) change.1))

-- ---- which relvars were changed
module _ (n : ℕ) where
  in_list : (d : DeltaData) (ps : Changes) → change_to ps n ≡ Some d → In (n, d) ps
  in_list d [] h = cc
  in_list d (p ∷ ps) h = by (p.0 == n) refl h (in_list d ps)
    where
      by : (b : Bool) → p.0 == n ≡ b → (if b then Some p.1 else change_to ps n) ≡ Some d → (change_to ps n ≡ Some d → In (n, d) ps) → In (n, d) (p ∷ ps)
      by true e same rest = inl (λ i. (sym (eqb-true p.0 n e) i, sym (some_same p.1 d same) i))
      by false e later rest = inr (rest later)

  in_none : (d : DeltaData) (ps : Changes) → change_to ps n ≡ None → In (n, d) ps → ⊥
  in_none d [] h m = m
  in_none d (p ∷ ps) h m = by (p.0 == n) refl h m (in_none d ps)
    where
      by : (b : Bool) → p.0 == n ≡ b → (if b then Some p.1 else change_to ps n) ≡ None → In (n, d) (p ∷ ps) → (change_to ps n ≡ None → In (n, d) ps → ⊥) → ⊥
      by true e same q rest = cc
      by false e later (inl q) rest = true≢false (sym (eq-eqb p.0 n (sym (ap (λ (w : ℕ × DeltaData). w.0) q))) ∙ e)
      by false e later (inr q) rest = rest later q

change_there : (changes : Changes) (n : ℕ) (d : DeltaData) → change_to changes n ≡ Some d → Contains changes (n, d)
change_there changes n d is = in_contains changes (n, d) (in_list n d changes is)

no_change : (changes : Changes) (n : ℕ) → change_to changes n ≡ None → IsChanged changes n → ⊥
no_change changes n none h = in_none n h.0 changes none (contains_in changes (n, h.0) h.1)

pub untouched : (changes : Changes) (x : Expression) (b : Bool) → b ≡ list_any (is_changed changes) (reads x) → b ≡ false → IsUntouched changes x
untouched changes x b is none n h change =
    true≢false
    (sym (any_in (is_changed changes) (reads x) n (contains_in (reads x) n h) (any_in (λ (p : ℕ × DeltaData). p.0 == n) changes (n, change.0) (contains_in changes (n, change.0) change.1) (eq-eqb n n refl)))
    ∙ sym is ∙ none)

module _ (key : List (List ℕ)) (changes : Changes) (n : ℕ) (r : RowsData) (k : KeyOf changes n key r) where
  pub key_unchanged : change_to changes n ≡ None → true ≡ is_key key r.tuples
  key_unchanged none = key_stays key changes n r k (no_change changes n none)

  pub key_changed : (d : DeltaData) (b : Bool) → change_to changes n ≡ Some d → IsTrue b ↔ TellApartFrom key d.inserted r → b ≡ is_key key r.tuples
  key_changed d b is = key_told key changes n r k d b (change_there changes n d is)

  pub heading_changed : (d : DeltaData) → change_to changes n ≡ Some d → d.inserted.heading ≡ r.heading
  heading_changed d is = heading_told key changes n r k d (change_there changes n d is)

-- ---- what was true before, test by test
stands_in : {A : Type 0} (xs : List A) (n : ℕ) (x : A) → slice_get xs n ≡ Some x → Contains xs x
stands_in xs n x at = (n, slice_get_within xs n x at, get_or_from_slice_get xs n x x at)

module _ (c : CatalogueData) (now : Relvars) (place : ℕ) where
  abbrev If : (Changes → Type 0) → Option (Bor Changes) → Type 0
  If P o = MatchOption o (Unit {0}) (λ cs. P cs.now)

  pub key_before : (n : ℕ) (key : List (List ℕ)) → StandsAt c place (test.Key n key) → (o : Option (Bor Changes)) → If (PassedBefore c now) o → If (λ cs. KeyBefore now cs n key) o
  key_before n key at None h = tt
  key_before n key at (Some cs) h = record { before = h.before; held = h.legal (test.Key n key) (stands_in c.tests place (test.Key n key) at); lead = h.lead }

  pub constraint_before : (name : List ℕ) (u : Typed) (x : Expression) → StandsAt c place (test.Constraint name u) → x.tree ≡ u → (o : Option (Bor Changes)) → If (PassedBefore c now) o → If (λ cs. ConstraintBefore c now cs x) o
  constraint_before name u x at is None h = tt
  constraint_before name u x at is (Some cs) h = record {
    before = h.before;
    held = ap (λ v. and_then (tree_means c h.before v no_attrs) truth_of) is ∙ h.legal (test.Constraint name u) (stands_in c.tests place (test.Constraint name u) at);
    lead = h.lead;
  }

  -- one that reads nothing that was changed is true
  pub apart_stays : (name : List ℕ) (u : Typed) → Defined c → StandsAt c place (test.Constraint name u) → (o : Option (Bor Changes)) → If (PassedBefore c now) o → MatchOption o ⊥ (λ cs. ReadsNone c cs.now place) → and_then (tree_means c now u no_attrs) truth_of ≡ Ok true
  apart_stays name u defined at None h never = absurd never
  apart_stays name u defined at (Some cs) h never =
      let here : constraint_at c place ≡ Some u = ap constraint_of at in
      tree_still_true c u h.before now cs.now defined (constraint_tree c defined place u here) h.lead (h.legal (test.Constraint name u) (stands_in c.tests place (test.Constraint name u) at)) (never u here)
