-- What virtual relvars mean.
use Rattle.std.proofs.Common.{◌≡◌, ℕ, zero, suc, Bool, true, List, [], ◌∷◌, Option, Some, None, if◌then◌else◌, refl, ap, sym, ◌∙◌, subst, arith, true≢false, eq-eqb, ne_eqb}
use Rattle.std.specs.Prelude.{slice_get}
use Rattle.std.specs.List.{Contains, filter_map, cons_option}
use Rattle.std.specs.List.Sorted.{IsStrictlySortedBy}
use Rattle.std.specs.Ordering.{nat_cmp}
use Rattle.std.proofs.lemmas.Map.Keys.{sorted_tail}
use Rattle.td_typed_trees.specs.declared.expression.Expression.{Expression}
use Rattle.td_typed_trees.specs.declared.expression.VirtualUnder.{VirtualUnder}
use Rattle.td_typed_trees.specs.declared.tree.Typed.{Typed}
use Rattle.td_headings.specs.Catalogues.{CatalogueData}
use Rattle.td_headings.specs.Definitions.{Defined}
use Rattle.td_headings.specs.Expressions.{IsTyped, virtual_of, virtual_at, reads}
use Rattle.td_headings.specs.Reached.{is_base}
use Rattle.td_headings.specs.declared.defined.Origin.{Origin}
use Rattle.td_headings.specs.declared.defined.Origin.TheVariants as origin
use Rattle.td_meaning.specs.Mean.{Relvars, Selection, mean, rows_in}
use Rattle.td_meaning.specs.Selections.{selection}
use Rattle.td_semantics.specs.Meanings.{no_names, with_virtual, with_virtuals, relvars_under}
use Rattle.td_eval.proofs.Named.{named_agree}
use Rattle.td_eval.proofs.Placed.{names_earlier}
use Rattle.td_eval.proofs.Known.{further, later, those}

pub head_or_tail : {A P : Type 0} (x : A) (xs : List A) (y : A) → Contains (x ∷ xs) y → (x ≡ y → P) → (Contains xs y → P) → P
head_or_tail x xs y (zero, lt, is) here there = here is
head_or_tail x xs y (suc k, lt, is) here there = there (k, omega (arith, lt), is)

module _ (c : CatalogueData) (defined : Defined c) (selected : Selection) where
  abbrev stored : ℕ → Bool
  stored n = is_base (slice_get c.origins n)

  abbrev after : List ℕ → Relvars → Relvars
  after ns r = with_virtuals selected (filter_map (virtual_at c) ns) r

  abbrev put : ℕ → Typed → Relvars → Relvars
  put m e r = with_virtual selected r (record { place = m; tree = e })

  other_stays : (m : ℕ) (e : Typed) (r : Relvars) (n : ℕ) → (m ≡ n → ⊥) → put m e r n ≡ r n
  other_stays m e r n apart = ap (λ b. if b then rows_in (mean r selected e) no_names else r n) (ne_eqb m n apart)

  -- ---- what is no virtual relvar among these stays
  abbrev Stays : List ℕ → Type 0
  Stays ns = (r : Relvars) (n : ℕ) → (Contains ns n → stored n ≡ true) → after ns r n ≡ r n

  one_stays : (m : ℕ) (ms : List ℕ) → Stays ms → (r : Relvars) (n : ℕ) → (Contains (m ∷ ms) n → stored n ≡ true) → (o : Option Origin) → slice_get c.origins m ≡ o → with_virtuals selected (cons_option (virtual_of m o) (filter_map (virtual_at c) ms)) r n ≡ r n
  one_stays m ms rest r n f None is = rest r n (λ h. f (further m ms n h))
  one_stays m ms rest r n f (Some (origin.Base ks e)) is = rest r n (λ h. f (further m ms n h))
  one_stays m ms rest r n f (Some (origin.Virtual e)) is =
      rest (put m e r) n (λ h. f (further m ms n h))
      ∙ other_stays m e r n (λ same. absurd (true≢false (sym (f (0, omega arith, same)) ∙ ap stored (sym same) ∙ ap is_base is)))

  pub stays : (ns : List ℕ) → Stays ns
  stays [] r n f = refl
  stays (m ∷ ms) r n f = one_stays m ms (stays ms) r n f (slice_get c.origins m) refl

  -- ---- and a virtual one among them means its expression
  abbrev IsIts : Relvars → VirtualUnder → Type 0
  IsIts r v = r v.place ≡ rows_in (mean r selected v.tree) no_names

  first_is : (m : ℕ) (ms : List ℕ) (e : Typed) (r : Relvars) → IsStrictlySortedBy nat_cmp (m ∷ ms) → slice_get c.origins m ≡ Some (origin.Virtual e) → IsIts (after ms (put m e r)) (record { place = m; tree = e })
  first_is m ms e r sorted is =
      let alike : mean r selected e ≡ mean (after ms (put m e r)) selected e = named_agree r (after ms (put m e r)) selected e (λ w h.
      let lt = names_earlier c defined m e is w h in
      sym (stays ms (put m e r) w (λ q. let gt = later m ms w sorted q in absurd (omega (arith, lt, gt)))
      ∙ other_stays m e r w (λ same. absurd (omega (arith, lt, same))))) in
      stays ms (put m e r) m (λ q. let gt = later m ms m sorted q in absurd (omega (arith, gt)))
      ∙ ap (λ b. if b then rows_in (mean r selected e) no_names else r m) (eq-eqb m m refl)
      ∙ ap (λ f. rows_in f no_names) alike

  one_is : (m : ℕ) (ms : List ℕ) (v : VirtualUnder) → IsStrictlySortedBy nat_cmp (m ∷ ms) → ((q : Relvars) → Contains (filter_map (virtual_at c) ms) v → IsIts (after ms q) v) → (r : Relvars) (o : Option Origin) → slice_get c.origins m ≡ o → Contains (cons_option (virtual_of m o) (filter_map (virtual_at c) ms)) v → IsIts (with_virtuals selected (cons_option (virtual_of m o) (filter_map (virtual_at c) ms)) r) v
  one_is m ms v sorted rest r None is h = rest r h
  one_is m ms v sorted rest r (Some (origin.Base ks e)) is h = rest r h
  one_is m ms v sorted rest r (Some (origin.Virtual e)) is h =
      head_or_tail (record { place = m; tree = e }) (filter_map (virtual_at c) ms) v h
      (λ same. subst (IsIts (after ms (put m e r))) same (first_is m ms e r sorted is))
      (rest (put m e r))

  pub each_is : (ns : List ℕ) → IsStrictlySortedBy nat_cmp ns → (r : Relvars) (v : VirtualUnder) → Contains (filter_map (virtual_at c) ns) v → IsIts (after ns r) v
  each_is [] sorted r v h = absurd (omega (arith, h.1))
  each_is (m ∷ ms) sorted r v h = one_is m ms v sorted (λ q. each_is ms (sorted_tail nat_cmp m ms sorted) q v) r (slice_get c.origins m) refl h

pub by_expressions : (x : Expression) (r : Relvars) (v : VirtualUnder) → IsTyped x → Contains x.virtuals v → relvars_under x r v.place ≡ rows_in (mean (relvars_under x r) (selection x.selectors) v.tree) no_names
by_expressions x r v typed h =
    let u = typed.under in
    let selected = selection x.selectors in
    subst (λ vs. with_virtuals selected vs r v.place ≡ rows_in (mean (with_virtuals selected vs r) selected v.tree) no_names) (sym u.virtuals)
    (each_is typed.catalogue typed.defined selected u.relvars u.reached.ascending r v (subst (λ vs. Contains vs v) u.virtuals h))

pub stored_stay : (x : Expression) (r : Relvars) (n : ℕ) → IsTyped x → Contains (reads x) n → relvars_under x r n ≡ r n
stored_stay x r n typed h =
    let u = typed.under in
    let is = ((those typed.catalogue typed.defined x typed.tree u).members n).0 h in
    ap (λ vs. with_virtuals (selection x.selectors) vs r n) u.virtuals
    ∙ stays typed.catalogue typed.defined (selection x.selectors) u.relvars r n (λ q. is.1)
