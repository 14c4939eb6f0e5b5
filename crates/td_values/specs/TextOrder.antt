-- The order of texts: that of their bytes, and of their characters.
use Rattle.std.specs.Prelude.{◌≡◌, ℕ, List, IsTrue, refl}
use Rattle.std.specs.declared.cmp.Ordering.{Ordering}
use Rattle.std.specs.declared.cmp.Ordering.TheVariants.{Less, Equal, Greater}
use Rattle.std.specs.Ordering.{nat_cmp, is_eq, eq_by_cmp, as_partial_cmp}
use Rattle.std.specs.Cmp.{IsTotalOrder, IsEquivalence, IsPartialEquivalence, IsPartialOrder, eq_by_cmp_equiv, partial_equiv_from_equiv, partial_order_from_total}
use Rattle.std.specs.Cmp.Lexicographic.{slice_cmp, nat_list_cmp_total}
use Rattle.std.specs.Str.{chars}
use Rattle.std.specs.Hash as fed
use Rattle.std.proofs.Common.{ap}
use Rattle.std.proofs.lemmas.Map.Lookups.{exact_bytes}
use Rattle.td_values.specs.Order.{text_cmp}

-- by code points: the first different character decides, and else the number of characters
abbrev pub code_point_cmp : List ℕ → List ℕ → Ordering
code_point_cmp s t = slice_cmp nat_cmp (chars s) (chars t)

pub text_total : IsTotalOrder text_cmp
text_total = nat_list_cmp_total

pub text_equivalence : IsEquivalence (eq_by_cmp text_cmp)
text_equivalence = eq_by_cmp_equiv text_total

pub text_partial_equivalence : IsPartialEquivalence (eq_by_cmp text_cmp)
text_partial_equivalence = partial_equiv_from_equiv text_equivalence

pub text_partial_order : IsPartialOrder (eq_by_cmp text_cmp) (as_partial_cmp text_cmp)
text_partial_order = partial_order_from_total text_total

tie : (o : Ordering) → IsTrue (is_eq o) → o ≡ Equal
tie Less t = cc
tie Equal t = refl
tie Greater t = cc

-- equal texts are hashed alike
pub text_hashed : (s t : List ℕ) → IsTrue (eq_by_cmp text_cmp s t) → fed.str s ≡ fed.str t
text_hashed s t e = ap fed.str (exact_bytes s t (tie (text_cmp s t) e))
