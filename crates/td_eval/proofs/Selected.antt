-- What selectors make, whichever others there are.
use Rattle.std.proofs.Common.{◌≡◌, ℕ, zero, suc, ◌<◌, List, [], ◌∷◌, length, Option, Some, None, if◌then◌else◌, Ok, Err, refl, ap, sym, ◌∙◌, subst, arith, eq-eqb, ne_eqb}
use Rattle.std.specs.Prelude.{slice_get}
use Rattle.std.specs.List.{Contains, filter_map, cons_option, fold}
use Rattle.std.specs.List.Sorted.{IsStrictlySortedBy}
use Rattle.std.specs.Ordering.{nat_cmp}
use Rattle.std.proofs.lemmas.Map.Keys.{sorted_tail}
use Rattle.td_values.specs.Data.{user, items_of}
use Rattle.td_algebra.specs.Raising.{and_then}
use Rattle.td_values.specs.declared.raises.Raise.TheVariants as raise
use Rattle.td_algebra.specs.declared.errors.Stop.TheVariants as stop
use Rattle.td_typed_trees.specs.declared.expression.Selector.{Selector}
use Rattle.td_typed_trees.specs.declared.tree.Typed.{Typed}
use Rattle.td_schema.specs.Written.{names}
use Rattle.td_schema.specs.declared.schema.Representation.{Representation}
use Rattle.td_headings.specs.Catalogues.{CatalogueData}
use Rattle.td_headings.specs.Definitions.{Defined}
use Rattle.td_headings.specs.Expressions.{selector_of, selector_at}
use Rattle.td_headings.specs.Reached.{possreps_within}
use Rattle.td_headings.proofs.WellTyped.{all_typed}
use Rattle.td_meaning.specs.Mean.{Names, Selection, truth_in}
use Rattle.td_meaning.specs.Selections.{admits, components, no_relvars, selected, with_selector}
use Rattle.td_eval.proofs.Known.{either, further, later}
use Rattle.td_eval.proofs.Named.{agree}
use Rattle.td_eval.proofs.Placed.{selects_earlier}

-- ---- what stands within a list
pub standing : {A : Type 0} (xs : List A) (n : ℕ) → n < length xs → (x : A) × (slice_get xs n ≡ Some x)
standing [] n lt = absurd (omega (arith, lt))
standing (x ∷ xs) zero lt = (x, refl)
standing (x ∷ xs) (suc n) lt = standing xs n (omega (arith, lt))

-- ---- a selector makes the same beside others that make the same at the possreps of its CONSTRAINT
module _ (p q : Selection) where
  admits_alike : (o : Option Typed) (known : Names) → ((w : ℕ) → Contains (possreps_within o) w → p w ≡ q w) → admits p o known ≡ admits q o known
  unfolding admits
  admits_alike None known same = refl
  admits_alike (Some e) known same = ap (λ m. truth_in m known) (agree no_relvars no_relvars p q e (λ n h. refl, same))

  pub selected_alike : (s : Selector) → ((w : ℕ) → Contains (possreps_within s.limit) w → p w ≡ q w) → selected p s ≡ selected q s
  unfolding selected
  selected_alike s same = λ i ds. and_then (admits_alike s.limit (components s.components ds) same i) (λ b. if b then Ok (user s.possrep (items_of ds)) else Err (stop.Error raise.Selector))

-- ---- the selectors at ascending places
abbrev maybe : Selection → Option Selector → Selection
maybe q None = q
maybe q (Some s) = with_selector q s

first_of_them : (q : Selection) (o : Option Selector) (ss : List Selector) → fold with_selector q (cons_option o ss) ≡ fold with_selector (maybe q o) ss
first_of_them q None ss = refl
first_of_them q (Some s) ss = refl

other_stays : (q : Selection) (s : Selector) (n : ℕ) → (s.place ≡ n → ⊥) → with_selector q s n ≡ q n
other_stays q s n apart = λ i ds. ap (λ b. if b then selected q s ds else q n ds) (ne_eqb s.place n apart) i

it_makes : (q : Selection) (s : Selector) (n : ℕ) → s.place ≡ n → with_selector q s n ≡ selected q s
it_makes q s n same = λ i ds. ap (λ b. if b then selected q s ds else q n ds) (eq-eqb s.place n same) i

abbrev pub placed : ℕ → Representation → Option Typed → Selector
placed n r u = record { place = n; possrep = r.possrep; components = names r.components; limit = u }

maybe_stays : (q : Selection) (m n : ℕ) (o : Option Representation) (l : Option (Option Typed)) → (m ≡ n → ⊥) → maybe q (selector_of m o l) n ≡ q n
maybe_stays q m n None None apart = refl
maybe_stays q m n None (Some u) apart = refl
maybe_stays q m n (Some r) None apart = refl
maybe_stays q m n (Some r) (Some u) apart = other_stays q (placed m r u) n apart

module _ (c : CatalogueData) (defined : Defined c) where
  abbrev pub chosen : List ℕ → Selection → Selection
  chosen ns q = fold with_selector q (filter_map (selector_at c) ns)

  next_chosen : (m : ℕ) (ms : List ℕ) (q : Selection) → chosen (m ∷ ms) q ≡ chosen ms (maybe q (selector_at c m))
  next_chosen m ms q = first_of_them q (selector_at c m) (filter_map (selector_at c) ms)

  -- what is not among these stays
  unchosen : (ns : List ℕ) (q : Selection) (n : ℕ) → (Contains ns n → ⊥) → chosen ns q n ≡ q n
  unchosen [] q n out = refl
  unchosen (m ∷ ms) q n out =
      ap (λ (p : Selection). p n) (next_chosen m ms q)
      ∙ unchosen ms (maybe q (selector_at c m)) n (λ h. out (further m ms n h))
      ∙ maybe_stays q m n (slice_get c.schema.possreps m) (slice_get c.limits m) (λ e. out (0, omega arith, e))

  -- and what is among them makes what its selector does
  abbrev Makes : Selection → ℕ → Type 0
  Makes p n = (r : Representation) (u : Option Typed) → slice_get c.schema.possreps n ≡ Some r → slice_get c.limits n ≡ Some u → p n ≡ selected p (placed n r u)

  first_makes : (m : ℕ) (ms : List ℕ) (q : Selection) → IsStrictlySortedBy nat_cmp (m ∷ ms) → Makes (chosen (m ∷ ms) q) m
  first_makes m ms q sorted r u p l =
      let s = placed m r u in
      let is : selector_at c m ≡ Some s = λ i. selector_of m (p i) (l i) in
      let begins : chosen (m ∷ ms) q ≡ chosen ms (with_selector q s) = next_chosen m ms q ∙ ap (λ o. chosen ms (maybe q o)) is in
      let after = chosen ms (with_selector q s) in
      let makes : after m ≡ selected after s =
      unchosen ms (with_selector q s) m (λ h. let gt = later m ms m sorted h in absurd (omega (arith, gt)))
      ∙ it_makes q s m refl
      ∙ selected_alike q after s (λ w h.
      let lt = selects_earlier c defined m u l w h in
      sym (unchosen ms (with_selector q s) w (λ k. let gt = later m ms w sorted k in absurd (omega (arith, lt, gt)))
      ∙ other_stays q s w (λ e. absurd (omega (arith, lt, e)))))
      in
      subst (λ (p : Selection). p m ≡ selected p s) (sym begins) makes

  pub each_makes : (ns : List ℕ) (q : Selection) → IsStrictlySortedBy nat_cmp ns → (n : ℕ) → Contains ns n → Makes (chosen ns q) n
  each_makes [] q sorted n h r u p l = absurd (omega (arith, h.1))
  each_makes (m ∷ ms) q sorted n h r u p l =
      either m ms n h
      (λ e. subst (Makes (chosen (m ∷ ms) q)) (sym e) (first_makes m ms q sorted) r u p l)
      (λ k. subst (λ f. Makes f n) (sym (next_chosen m ms q)) (each_makes ms (maybe q (selector_at c m)) (sorted_tail nat_cmp m ms sorted) n k) r u p l)

  -- so two choices make the same at the places of one that selects from its own
  module _ (ns ks : List ℕ) (q : Selection) (first : IsStrictlySortedBy nat_cmp ns) (second : IsStrictlySortedBy nat_cmp ks) (inside : (n : ℕ) → Contains ns n → n < length c.limits) (closed : (n : ℕ) (u : Option Typed) → Contains ns n → slice_get c.limits n ≡ Some u → (w : ℕ) → Contains (possreps_within u) w → Contains ns w) (among : (n : ℕ) → Contains ns n → Contains ks n) where
    alike_below : (b n : ℕ) → n < b → Contains ns n → chosen ns q n ≡ chosen ks q n
    alike_below zero n lt h = absurd (omega (arith, lt))
    alike_below (suc b) n lt h =
        let within = inside n h in
        let each = (all_typed c defined).limit_each in
        let r = standing c.schema.possreps n (omega (arith, within, each)) in
        let u = standing c.limits n within in
        each_makes ns q first n h r.0 u.0 r.1 u.1
        ∙ selected_alike (chosen ns q) (chosen ks q) (placed n r.0 u.0) (λ w k. let less = selects_earlier c defined n u.0 u.1 w k in alike_below b w (omega (arith, lt, less)) (closed n u.0 h u.1 w k))
        ∙ sym (each_makes ks q second n (among n h) r.0 u.0 r.1 u.1)

    pub chosen_alike : (n : ℕ) → Contains ns n → chosen ns q n ≡ chosen ks q n
    chosen_alike n h = alike_below (suc n) n (omega arith) h
