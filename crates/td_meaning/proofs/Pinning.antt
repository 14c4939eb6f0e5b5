-- Conditions that begin with the values of a key.
use Rattle.std.proofs.Common.{◌≡◌, ◌<◌, ◌+◌, ◌++◌, ℕ, zero, suc, Bool, true, false, cond, List, [], ◌∷◌, length, map, take, get_or, IfSome, Bor, Option, None, Some, Result, Ok, ◌⊎◌, inl, inr, ⊎_elim, ◌||◌, refl, sym, ap, ◌∙◌, subst, true≢false, arith}
use Rattle.std.specs.Cmp.{tied_itself}
use Rattle.std.specs.FinMap as by_name
use Rattle.std.specs.List.{All, Contains, slice_get}
use Rattle.std.specs.Option.{option_map}
use Rattle.std.specs.Ordering.{eq_by_cmp, is_eq}
use Rattle.std.proofs.lemmas.List.Elements.{All-cons, All-push, All-tail}
use Rattle.td_values.specs.Attributes.{attribute_of}
use Rattle.td_values.specs.Data.{Datum, Attrs}
use Rattle.td_values.specs.Headings.{Header}
use Rattle.td_values.specs.Order.{attrs_order, text_cmp}
use Rattle.td_values.specs.Proving.Total.{order_total, tied}
use Rattle.td_values.specs.Rows.{RowsData, AreRows}
use Rattle.td_values.specs.Whole.{type_of}
use Rattle.td_values.proofs.Walks.{is_tied}
use Rattle.td_relations.specs.Sets.{IsRelationOf}
use Rattle.td_tuples.specs.Parts.{Fits, attributes, is_in}
use Rattle.td_tuples.specs.Unions.{tuple_of}
use Rattle.td_tuples.proofs.ByName.{attribute-tuple_of, fits_typed}
use Rattle.td_tuples.proofs.Filters.{taken}
use Rattle.td_tuples.proofs.Lists.{on_values, same_name}
use Rattle.td_syntax.specs.declared.tree.BinaryOperator.{BinaryOperator}
use Rattle.td_syntax.specs.declared.tree.BinaryOperator.TheVariants as binary
use Rattle.td_algebra.specs.declared.errors.Stop.{Stop}
use Rattle.td_algebra.specs.KeyIndexes.{IsKeyIndex, KeyIndexData, has_named, place_in, values_named}
use Rattle.td_algebra.proofs.ByKey.{all_named}
use Rattle.td_algebra.proofs.Made.{has_fits}
use Rattle.td_algebra.proofs.Narrowed.{narrowed}
use Rattle.td_algebra.proofs.PlacedParts.{itself}
use Rattle.td_operators.specs.Operators.{are_equal}
use Rattle.td_meaning.specs.declared.conditions.Check.{Check}
use Rattle.td_meaning.specs.declared.conditions.Check.TheVariants as check
use Rattle.td_meaning.specs.declared.conditions.Side.{Side}
use Rattle.td_meaning.specs.declared.conditions.Side.TheVariants as side
use Rattle.td_meaning.specs.ForProofs.Checks.{all_hold, and_also, check_holds, comparison}
use Rattle.td_meaning.specs.ForProofs.Over.{Means}
use Rattle.td_meaning.specs.ForProofs.Pinned.{ArePinned, Equals, Narrows, Pins, PinsAt, placed}
use Rattle.td_meaning.specs.Mean.{Names}
use Rattle.td_operators.specs.Values.{known}
use Rattle.td_meaning.proofs.Checks.{value_at_place}

-- ---- a comparison of an attribute with a value
there : {X : Type 0} (xs : List X) (p : ℕ) → p < length xs → (x : X) × (slice_get xs p ≡ Some x)
there [] p lt = absurd (omega arith)
there (x ∷ xs) zero lt = (x, refl)
there (x ∷ xs) (suc p) lt = there xs p (omega arith)

itself_same : (d : Datum) → are_equal d d ≡ true
itself_same d = ap is_eq (tied_itself order_total d)

some_one : {X : Type 0} {x y : X} → Some x ≡ Some y → x ≡ y
some_one e = cc

same_is : (d e : Datum) → are_equal d e ≡ true → d ≡ e
same_is d e is = tied d e (is_tied _ is)

pub equals : (c : Check) (w at : ℕ) (d : Datum) → c ≡ check.Comparison binary.Equals (side.Attribute at) (side.Value d) → at < w → Equals c w at d
unfolding check_holds
equals c w at d is lt = λ t many.
    let (a, e) = there (attributes t) at (omega (arith, lt, many)) in
    let here : placed t at ≡ Some a.1 = ap (option_map (λ (x : List ℕ × Datum). x.1)) e in
    (are_equal a.1 d, λ b. here ∙ ap Some (same_is a.1 d b), λ m names. ap (check_holds m names t) is ∙ ap (λ o. comparison binary.Equals (known o) (Ok d)) here)

pub equals_some : (c : Check) (w : ℕ) (o : BinaryOperator) (a b : Side) → c ≡ check.Comparison o a b → (r : Option (ℕ × Bor Datum))
    → IfSome r (λ e. (o ≡ binary.Equals) × (a ≡ side.Attribute e.0) × (b ≡ side.Value e.1.now) × (e.0 < w)) → IfSome r (λ e. Equals c w e.0 e.1.now)
equals_some c w o a b is None h = tt
equals_some c w o a b is (Some e) h = equals c w e.0 e.1.now (is ∙ (λ i. check.Comparison (h.0 i) (h.1 i) (h.2 i))) h.3

-- ---- the comparisons that a condition begins with
also_false : (b : Bool) → and_also (Ok b) (Ok false) ≡ Ok false
also_false true = refl
also_false false = refl

module _ (cs rest : List Check) (c : Check) (w at : ℕ) (e : Datum) (are : cs ≡ c ∷ rest) (eq : Equals c w at e) where
  pub pins_here : (p : ℕ) → at ≡ p → PinsAt cs w p e
  pins_here p is = λ t many other m names.
      let (b, there_is, holds) = eq t many in
      ap (all_hold m names t) are ∙ ap (λ r. and_also r (all_hold m names t rest)) (holds m names) ∙ fails b (λ y. other (ap (placed t) (sym is) ∙ there_is y)) (all_hold m names t rest)
    where
      fails : (b : Bool) → (b ≡ true → ⊥) → (r : Result Bool Stop) → and_also (Ok b) r ≡ Ok false
      fails true other r = absurd (other refl)
      fails false other r = refl

  pub pins_later : (p : ℕ) (d : Datum) → PinsAt rest w p d → PinsAt cs w p d
  pins_later p d pins = λ t many other m names.
      let (b, there_is, holds) = eq t many in
      ap (all_hold m names t) are ∙ (λ i. and_also (holds m names i) (pins t many other m names i)) ∙ also_false b

-- ---- at the names of a heading
many_attributes : {X Y : Type 0} (f : X → Y) (xs : List (List ℕ × X)) → length (on_values f xs) ≡ length xs
many_attributes f [] = refl
many_attributes f (x ∷ xs) = ap suc (many_attributes f xs)

pub pins_named : (h : Header) (cs : List Check) (w : ℕ) (n : List ℕ) (d : Datum) → w ≡ length (by_name.entries h) → PinsAt cs w (place_in h n) d → Pins h cs (n, d)
pins_named h cs w n d wide pins = λ t f other.
    let many : length (attributes t) ≡ w = sym (many_attributes type_of (attributes t)) ∙ ap length (fits_typed h t f) ∙ sym wide in
    pins t many (λ e. other (sym (value_at_place h n t f) ∙ e))

module _ (h : Header) (cs : List Check) (key : List (List ℕ)) (i : ℕ) (n : List ℕ) (lt : i < length key) (is : n ≡ get_or key i n) (fs more : List (List ℕ × Datum)) (d : Datum) where
  pub one_pinned : ArePinned h cs (take i key) fs → Pins h cs (n, d) → more ≡ fs ++ (n, d) ∷ [] → ArePinned h cs (take (i + 1) key) more
  one_pinned are pins e = record {
    names = ap (map (λ f. f.0)) e ∙ pushed fs ∙ ap (λ ns. ns ++ n ∷ []) are.names ∙ sym (taken key i n lt is);
    pins = subst (All (Pins h cs)) (sym e) (All-push (Pins h cs) fs (n, d) are.pins pins);
  }
    where
      pushed : (gs : List (List ℕ × Datum)) → map (λ f. f.0) (gs ++ (n, d) ∷ []) ≡ map (λ f. f.0) gs ++ n ∷ []
      pushed [] = refl
      pushed (g ∷ gs) = ap (λ ns. g.0 ∷ ns) (pushed gs)

-- ---- what an index does not find fails
module _ (h : Header) (cs : List Check) (t : Attrs) (f : Fits h t) (m : Means) (names : Names) where
  abbrev Fails : Type 0
  Fails = all_hold m names t cs ≡ Ok false

  abbrev AllThere : List (List ℕ × Datum) → Type 0
  AllThere fs = All (λ g. attribute_of g.0 t ≡ Some g.1) fs

  one_decided : (g : List ℕ × Datum) → Pins h cs g → (v : Option Datum) → attribute_of g.0 t ≡ v → Fails ⊎ (attribute_of g.0 t ≡ Some g.1)
  one_decided g pins None e = inl (pins t f (λ s. let wrong : None ≡ Some g.1 = sym e ∙ s in cc) m names)
  one_decided g pins (Some x) e = by (are_equal x g.1) refl
    where
      by : (b : Bool) → are_equal x g.1 ≡ b → Fails ⊎ (attribute_of g.0 t ≡ Some g.1)
      by true s = inr (e ∙ ap Some (same_is x g.1 s))
      by false s = inl (pins t f (λ k. let one : x ≡ g.1 = some_one (sym e ∙ k) in true≢false (sym (ap (λ y. are_equal y g.1) one ∙ itself_same g.1) ∙ s)) m names)

  decided : (gs : List (List ℕ × Datum)) → All (Pins h cs) gs → Fails ⊎ AllThere gs
  decided [] a = inr (λ k d lt. absurd (omega (arith, lt)))
  decided (g ∷ gs) a = ⊎_elim inl
      (λ e. ⊎_elim inl (λ es. inr (All-cons (λ (k : List ℕ × Datum). attribute_of k.0 t ≡ Some k.1) g gs e es)) (decided gs (All-tail (Pins h cs) g gs a)))
      (one_decided g (a 0 g (omega arith)) (attribute_of g.0 t) refl)

  all_found : (gs : List (List ℕ × Datum)) → AllThere gs → (n : List ℕ) → is_in (map (λ g. g.0) gs) n ≡ true → attribute_of n t ≡ by_name.find text_cmp n gs
  all_found [] a n i = absurd (true≢false (sym i))
  all_found (g ∷ gs) a n i =
      elim (eq_by_cmp text_cmp n g.0) as (λ b. eq_by_cmp text_cmp n g.0 ≡ b → (b || is_in (map (λ k. k.0) gs) n) ≡ true → attribute_of n t ≡ cond b (Some g.1) (by_name.find text_cmp n gs)) [
        | true ↦ λ e _. subst (λ k. attribute_of k t ≡ Some g.1) (sym (same_name n g.0 (is_tied _ e))) (a 0 g (omega arith))
        | false ↦ λ _ j. all_found gs (All-tail (λ (k : List ℕ × Datum). attribute_of k.0 t ≡ Some k.1) g gs a) n j
      ] refl i

  fails : (fs : List (List ℕ × Datum)) (key : List (List ℕ)) → ArePinned h cs key fs → has_named key (tuple_of fs) t ≡ false → Fails
  fails fs key are none = ⊎_elim (λ x. x) (λ all. absurd (true≢false (sym (found all) ∙ none))) (decided fs are.pins)
    where
      found : AllThere fs → has_named key (tuple_of fs) t ≡ true
      found all =
          let alike : values_named key t ≡ values_named key (tuple_of fs) =
          all_named t (tuple_of fs) key (λ n i. all_found fs all n (subst (λ ks. is_in ks n ≡ true) (sym are.names) i) ∙ sym (attribute-tuple_of fs n)) in
          ap (λ v. eq_by_cmp attrs_order v (values_named key (tuple_of fs))) alike ∙ itself (values_named key (tuple_of fs))

pub narrows : (r : RowsData) (cs : List Check) (x : KeyIndexData) (fs : List (List ℕ × Datum)) (sought : Attrs) (s : RowsData) → AreRows r.heading r.tuples → IsKeyIndex x.key r x → ArePinned r.heading cs x.key fs → sought ≡ tuple_of fs
    → IsRelationOf x.heading (λ u. Contains x.tuples u × (has_named x.key sought u ≡ true)) s → Narrows r cs s
narrows r cs x fs sought s rows index are is part = record {
  heading = part.heading ∙ index.heading;
  same = λ m names q alike. narrowed q r s (has_named x.key sought) x index part (λ t has none.
      let f = has_fits r rows t has in
      alike t f ∙ fails r.heading cs t f m names fs x.key are (ap (λ v. has_named x.key v t) (sym is) ∙ none));
}
