-- What the program evaluates over gives expressions their meaning.
use Rattle.std.proofs.Common.{◌≡◌, ℕ, List, [], ◌∷◌, Option, Some, None, Result, ap, sym, ◌∙◌, subst, refl, arith}
use Rattle.std.specs.Prelude.{slice_get}
use Rattle.std.specs.List.{Contains, filter_map, cons_option}
use Rattle.td_values.specs.Data.{Datum, Attrs}
use Rattle.td_typed_trees.specs.declared.expression.Expression.{Expression}
use Rattle.td_typed_trees.specs.declared.expression.VirtualUnder.{VirtualUnder}
use Rattle.td_typed_trees.specs.declared.tree.Typed.{Typed}
use Rattle.td_typed_trees.specs.declared.tree.Typed.TheVariants as t
use Rattle.td_algebra.specs.Raising.{Answers, and_then}
use Rattle.td_algebra.specs.declared.errors.Fault.{Fault}
use Rattle.std.specs.declared.convert.Infallible.{Infallible}
use Rattle.td_algebra.specs.declared.errors.Stop.{Stop}
use Rattle.td_headings.specs.Catalogues.{CatalogueData}
use Rattle.td_headings.specs.Expressions.{IsTyped, virtual_of, virtual_at}
use Rattle.td_headings.specs.declared.defined.Origin.{Origin}
use Rattle.td_headings.specs.declared.defined.Origin.TheVariants as origin
use Rattle.td_meaning.proofs.Forms.{of_relvar}
use Rattle.td_meaning.specs.Mean.{Meaning, Names, Relvars, mean, mean_relvar, rows_in, within}
use Rattle.td_meaning.specs.Parts.{AreRight}
use Rattle.td_meaning.specs.Seen.{mean_in, relvars_at, relvars_there, virtuals_known}
use Rattle.td_meaning.specs.Selections.{selection}
use Rattle.td_meaning.specs.declared.environment.Environment.{Environment}
use Rattle.td_operators.specs.Operators.{as_value}
use Rattle.td_operators.specs.Values.{rows_of}
use Rattle.td_semantics.specs.Meanings.{means, no_names, relvars_under}
use Rattle.td_eval.specs.ForProofs.Environments.{MeanTheirs, all_known, bases_known}
use Rattle.td_eval.proofs.Known.{as_known, further, known_relvar, virtual_names}
use Rattle.td_eval.proofs.Named.{named_agree}
use Rattle.td_eval.proofs.Virtuals.{by_expressions, head_or_tail}

-- ---- a virtual relvar under an expression is one of its catalogue
module _ (c : CatalogueData) where
  abbrev IsOne : List ℕ → VirtualUnder → Type 0
  IsOne ns v = Contains ns v.place × (slice_get c.origins v.place ≡ Some (origin.Virtual v.tree))

  later_one : (m : ℕ) (ms : List ℕ) (v : VirtualUnder) → IsOne ms v → IsOne (m ∷ ms) v
  later_one m ms v (there, is) = (further m ms v.place there, is)

  one_of : (m : ℕ) (ms : List ℕ) (v : VirtualUnder) → (Contains (filter_map (virtual_at c) ms) v → IsOne ms v) → (o : Option Origin) → slice_get c.origins m ≡ o → Contains (cons_option (virtual_of m o) (filter_map (virtual_at c) ms)) v → IsOne (m ∷ ms) v
  one_of m ms v rest None is h = later_one m ms v (rest h)
  one_of m ms v rest (Some (origin.Base ks e)) is h = later_one m ms v (rest h)
  one_of m ms v rest (Some (origin.Virtual e)) is h =
      head_or_tail (record { place = m; tree = e }) (filter_map (virtual_at c) ms) v h
      (λ same. subst (IsOne (m ∷ ms)) same ((0, omega arith, refl), is))
      (λ behind. later_one m ms v (rest behind))

  listed : (ns : List ℕ) (v : VirtualUnder) → Contains (filter_map (virtual_at c) ns) v → IsOne ns v
  listed [] v h = absurd (omega (arith, h.1))
  listed (m ∷ ms) v h = one_of m ms v (listed ms v) (slice_get c.origins m) refl h

-- and has what its expression means over all of them
virtual_means : (x : Expression) (r : Relvars) (v : VirtualUnder) → IsTyped x → Contains x.virtuals v → relvars_at (all_known x r) v.place ≡ rows_in (mean (relvars_at (all_known x r)) (selection x.selectors) v.tree) no_names
virtual_means x r v typed h =
    let c = typed.catalogue in
    let u = typed.under in
    let (there, is) = listed c u.relvars v (subst (λ vs. Contains vs v) u.virtuals h) in
    let same = known_relvar c typed.defined x typed.tree u r in
    let alike : mean (relvars_at (all_known x r)) (selection x.selectors) v.tree ≡ mean (relvars_under x r) (selection x.selectors) v.tree =
    named_agree (relvars_at (all_known x r)) (relvars_under x r) (selection x.selectors) v.tree (λ w k. same w (virtual_names c typed.defined x typed.tree u v.place v.tree there is w k)) in
    same v.place there
    ∙ by_expressions x r v typed h
    ∙ ap (λ (m : Meaning). rows_in m no_names) (sym alike)

-- no part is wrong where there is none
pub nothing_right : (e : Environment) → AreRight e []
nothing_right e p h = absurd (omega (arith, h.1))

-- ---- where what all relvars have is known, and no relvar is virtual
module _ (e f : Environment) (ks : f.relvars.now ≡ virtuals_known (selection e.selectors.now) e.virtuals.now e.relvars.now) (vs : f.virtuals.now ≡ []) (ss : f.selectors.now ≡ e.selectors.now) where
  all_there : relvars_there f ≡ relvars_there e
  unfolding relvars_there
  all_there = λ i. relvars_at (virtuals_known (selection (ss i)) (vs i) (ks i))

  pub all_mean : mean_in f ≡ mean_in e
  all_mean = λ i. mean (all_there i) (selection (ss i))

-- ---- the environment of an expression
module _ (x : Expression) (r : Relvars) (e : Environment) (ks : e.relvars.now ≡ bases_known r x.bases) (vs : e.virtuals.now ≡ x.virtuals) (ss : e.selectors.now ≡ x.selectors) where
  there_is : relvars_there e ≡ relvars_at (all_known x r)
  unfolding relvars_there
  there_is = λ i. relvars_at (virtuals_known (selection (ss i)) (vs i) (ks i))

  pub mean_is : mean_in e ≡ mean (relvars_at (all_known x r)) (selection x.selectors)
  mean_is = λ i. mean (there_is i) (selection (ss i))

  pub theirs : IsTyped x → MeanTheirs e
  theirs typed v h =
      ap (λ (q : Relvars). q v.place) there_is
      ∙ virtual_means x r v typed (subst (λ l. Contains l v) vs h)
      ∙ ap (λ (m : Typed → Meaning). rows_in (m v.tree) no_names) (sym mean_is)

-- all of it gives its value
pub whole_means : (x : Expression) (r : Relvars) → IsTyped x → (u : Typed) → u ≡ x.tree → (t : Attrs) (w : Result Datum (Fault Infallible)) → Answers w (mean (relvars_at (all_known x r)) (selection x.selectors) u (within t no_names)) → Answers w (means x r t)
whole_means x r typed u is t w h =
    subst (λ (m : Meaning). Answers w (m (within t no_names))) (ap (mean (relvars_at (all_known x r)) (selection x.selectors)) is ∙ as_known x typed r) h

-- ---- a virtual relvar as a part
pub named_means : (e : Environment) (v : VirtualUnder) → MeanTheirs e → Contains e.virtuals.now v → (a : Typed) → a ≡ t.Relvar v.place → (w : Result Datum Stop) → w ≡ and_then (and_then (mean_in e v.tree no_names) rows_of) as_value → (names : Names) → mean_in e a names ≡ w
unfolding mean_relvar rows_in
named_means e v meant h a is w value names =
    ap (λ (m : Meaning). m names) (ap (mean_in e) is ∙ of_relvar (relvars_there e) (selection e.selectors.now) v.place)
    ∙ ap (λ r. and_then r as_value) (meant v h)
    ∙ sym value
