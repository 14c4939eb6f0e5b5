-- Components of a possrep, sought by name.
use Rattle.std.proofs.Common.{◌≡◌, ◌≤◌, ◌<◌, ◌+◌, ℕ, List, [], ◌∷◌, length, get_or, drop, false, if◌then◌else◌, None, Some, refl, sym, ap, ◌∙◌, ◌⊎◌, inl, inr}
use Rattle.std.proofs.lemmas.List.{drop_more, drop_all}
use Rattle.td_values.specs.Data.{Datum, boolean}
use Rattle.td_meaning.specs.Mean.{are_equal_names}
use Rattle.td_meaning.specs.Selections.{components}

pub components_apart : (ns : List (List ℕ)) (ds : List Datum) (x : List ℕ) (i : ℕ) (n : List ℕ) → i < length ns → i < length ds → n ≡ get_or ns i n → are_equal_names n x ≡ false
    → components (drop i ns) (drop i ds) x ≡ components (drop (i + 1) ns) (drop (i + 1) ds) x
components_apart ns ds x i n p q is apart =
    let d = boolean false in
    (λ j. components (drop_more ns i n p j) (drop_more ds i d q j) x)
    ∙ ap (λ m. if are_equal_names m x then Some (get_or ds i d) else components (drop (i + 1) ns) (drop (i + 1) ds) x) (sym is)
    ∙ ap (λ b. if b then Some (get_or ds i d) else components (drop (i + 1) ns) (drop (i + 1) ds) x) apart

no_values : (ns : List (List ℕ)) (x : List ℕ) → components ns [] x ≡ None
no_values [] x = refl
no_values (n ∷ ns) x = refl

pub components_ended : (ns : List (List ℕ)) (ds : List Datum) (x : List ℕ) (i : ℕ) → (length ns ≤ i) ⊎ (length ds ≤ i) → components (drop i ns) (drop i ds) x ≡ None
components_ended ns ds x i (inl p) = ap (λ ms. components ms (drop i ds) x) (drop_all i ns p)
components_ended ns ds x i (inr q) = ap (λ es. components (drop i ns) es x) (drop_all i ds q) ∙ no_values (drop i ns) x
