-- What compares as equal is equal.
use Rattle.std.proofs.Common.{◌≡◌, ℕ, List, [], ◌∷◌, refl}
use Rattle.std.specs.declared.cmp.Ordering.{Ordering}
use Rattle.std.specs.declared.cmp.Ordering.TheVariants.{Less, Equal, Greater}
use Rattle.std.specs.Ordering.{ordering_then}
use Rattle.std.specs.Cmp.Lexicographic.{slice_cmp}
use Rattle.std.proofs.lemmas.Map.Lookups.{CmpEqualImpliesEq, exact_bytes, exact_pairs}
use Rattle.td_values.specs.Headings.{Header, header_fields}
use Rattle.td_values.specs.Order.{text_cmp, fields_order}
use Rattle.td_values.specs.Proving.Total.{fields_tied}
use Rattle.td_values.proofs.TupleLemmas.{same_header}

pub same_heading : (g h : Header) → fields_order (header_fields g) (header_fields h) ≡ Equal → g ≡ h
same_heading g h e = same_header g h (fields_tied _ _ e)

pub both_equal : (p q : Ordering) → ordering_then p q ≡ Equal → (p ≡ Equal) × (q ≡ Equal)
both_equal Less q e = cc
both_equal Equal q e = (refl, e)
both_equal Greater q e = cc

exact_lists : {X : Type 0} {R : X → X → Ordering} → CmpEqualImpliesEq R → CmpEqualImpliesEq (slice_cmp R)
exact_lists exact [] [] e = refl
exact_lists exact [] (y ∷ ys) e = cc
exact_lists exact (x ∷ xs) [] e = cc
exact_lists exact (x ∷ xs) (y ∷ ys) e =
    let k = both_equal _ _ e in λ i. exact x y k.0 i ∷ exact_lists exact xs ys k.1 i

pub same_names : (xs ys : List (List ℕ)) → slice_cmp text_cmp xs ys ≡ Equal → xs ≡ ys
same_names = exact_lists exact_bytes

pub same_renamings : (xs ys : List (List ℕ × List ℕ))
    → slice_cmp (λ (x y : List ℕ × List ℕ). ordering_then (text_cmp x.0 y.0) (text_cmp x.1 y.1)) xs ys ≡ Equal
    → xs ≡ ys
same_renamings = exact_lists (exact_pairs text_cmp text_cmp exact_bytes exact_bytes)
