-- Virtual relvars behind those that are known.
use Rattle.std.proofs.Common.{◌≡◌, ◌==◌, ◌++◌, ◌||◌, ℕ, Bool, true, false, List, [], ◌∷◌, if◌then◌else◌, Option, None, Some, MatchOption, Result, Err, refl, ap, ◌∙◌}
use Rattle.std.proofs.lemmas.List.Folds.{list_any-append}
use Rattle.td_values.specs.Rows.{RowsData}
use Rattle.td_typed_trees.specs.declared.expression.VirtualUnder.{VirtualUnder}
use Rattle.td_algebra.specs.declared.errors.Stop.{Stop}
use Rattle.td_algebra.specs.declared.errors.Stop.TheVariants.{Untyped}
use Rattle.td_meaning.specs.declared.environment.Known.{Known}
use Rattle.td_meaning.specs.ForProofs.Places.{is_known, is_virtual}
use Rattle.td_meaning.specs.Mean.{Selection}
use Rattle.td_meaning.specs.Seen.{none_virtual, relvars_at, virtual_known, virtuals_known}

none_true : {P : Type 0} → false ≡ true → P
none_true h = cc

first_true : (a b : Bool) → a ≡ true → (a || b) ≡ true
first_true true b h = refl
first_true false b h = cc

no_first : (a b : Bool) → (a || b) ≡ false → a ≡ false
no_first true b h = cc
no_first false b h = refl

no_second : (a b : Bool) → (a || b) ≡ false → b ≡ false
no_second true b h = cc
no_second false b h = h

neither : (a b : Bool) → a ≡ false → b ≡ false → (a || b) ≡ false
neither true b h k = cc
neither false b h k = k

or_none : (a : Bool) → (a || false) ≡ a
or_none true = refl
or_none false = refl

-- where no relvar is virtual, none is at any place
pub none_is_virtual : (n : ℕ) (vs : List VirtualUnder) → none_virtual vs ≡ true → is_virtual n vs ≡ false
none_is_virtual n [] h = refl
none_is_virtual n (v ∷ vs) h = cc

-- what holds of what there is goes over to what follows from it
pub through_option : {R : Type 0} (o : Option R) (A : Type 0) (P Q : R → Type 0) → ((r : R) → P r → Q r) → MatchOption o A P → MatchOption o A Q
through_option None A P Q f h = h
through_option (Some r) A P Q f h = f r h

module _ (n : ℕ) where
  abbrev here : Known → Bool
  here k = k.place == n

  -- ---- one more behind those that are known
  still_known : (ks : List Known) (k : Known) → is_known n ks ≡ true → is_known n (ks ++ k ∷ []) ≡ true
  still_known ks k h = list_any-append here ks (k ∷ []) ∙ first_true (is_known n ks) (is_known n (k ∷ [])) h

  still_none : (ks : List Known) (k : Known) → is_known n ks ≡ false → here k ≡ false → is_known n (ks ++ k ∷ []) ≡ false
  still_none ks k h e = list_any-append here ks (k ∷ []) ∙ neither (is_known n ks) (is_known n (k ∷ [])) h (or_none (here k) ∙ e)

  abbrev if_here : Known → Bool → Result RowsData Stop → Result RowsData Stop
  if_here k b other = if b then k.value else other

  either_way : (j : Known) (more less : Result RowsData Stop) (rest b : Bool) → (b || rest) ≡ true → (rest ≡ true → more ≡ less) → if_here j b more ≡ if_here j b less
  either_way j more less rest true h same = refl
  either_way j more less rest false h same = same h

  stays : (ks : List Known) (k : Known) → is_known n ks ≡ true → relvars_at (ks ++ k ∷ []) n ≡ relvars_at ks n
  stays [] k h = none_true h
  stays (j ∷ ks) k h = either_way j (relvars_at (ks ++ k ∷ []) n) (relvars_at ks n) (is_known n ks) (here j) h (stays ks k)

  none_has : (ks : List Known) → is_known n ks ≡ false → relvars_at ks n ≡ Err Untyped
  none_has [] h = refl
  none_has (j ∷ ks) h = ap (λ b. if_here j b (relvars_at ks n)) (no_first (here j) (is_known n ks) h) ∙ none_has ks (no_second (here j) (is_known n ks) h)

  -- ---- virtual ones behind them
  module _ (s : Selection) where
    -- what is known has what it had
    pub known_first : (vs : List VirtualUnder) (ks : List Known) → is_known n ks ≡ true → relvars_at (virtuals_known s vs ks) n ≡ relvars_at ks n
    known_first [] ks h = refl
    known_first (v ∷ vs) ks h = known_first vs (ks ++ virtual_known s ks v ∷ []) (still_known ks (virtual_known s ks v) h) ∙ stays ks (virtual_known s ks v) h

    -- what is at no place has nothing
    pub nowhere : (vs : List VirtualUnder) (ks : List Known) → is_known n ks ≡ false → is_virtual n vs ≡ false → relvars_at (virtuals_known s vs ks) n ≡ Err Untyped
    nowhere [] ks h w = none_has ks h
    nowhere (v ∷ vs) ks h w = nowhere vs (ks ++ virtual_known s ks v ∷ []) (still_none ks (virtual_known s ks v) h (no_first (v.place == n) (is_virtual n vs) w)) (no_second (v.place == n) (is_virtual n vs) w)
