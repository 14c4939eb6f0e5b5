-- Tests of levels, part by part.
use Rattle.std.proofs.Common.{◌≡◌, ◌<◌, ◌+◌, ◌-◌, ℕ, suc, max, true, false, List, Option, length, get_or, drop, refl, ap, ◌∙◌, arith, nat_le, ◌&&◌, add-one}
use Rattle.std.proofs.lemmas.Bool.Decides.{nat_tests}
use Rattle.std.proofs.Math.Seq.{drop-cons}
use Rattle.td_syntax.specs.declared.tree.Named.{Named}
use Rattle.td_syntax.specs.declared.tree.Groups.{Groups}
use Rattle.td_syntax.specs.declared.tree.SummaryTerm.{SummaryTerm}
use Rattle.td_syntax.specs.declared.tree.Expr.{Expr}
use Rattle.td_syntax.specs.declared.tree.Expr.TheVariants as e
use Rattle.td_syntax.specs.Levels.{levels, named_levels}
use Rattle.td_syntax.specs.ForProofs.Parts.{list_levels, summary_levels, summaries_levels, groups_levels}
use Rattle.td_syntax.specs.declared.tree.TypeExpr.{TypeExpr}
use Rattle.td_syntax.specs.declared.tree.Extension.{Extension}
use Rattle.td_syntax.proofs.Depths.{some_level, of_call, of_relation, of_tuple, of_extend, of_with, of_summarize}

-- two parts are within a number where each is
pub within_both : (a b m : ℕ) → nat_le (max a b) m ≡ (nat_le a m && nat_le b m)
within_both a b m = grind (arith, nat_tests)

-- one level more
pub within_more : (n l m : ℕ) → l ≡ suc n → (m ≡ 0 → ⊥) → nat_le l m ≡ nat_le n (m - 1)
within_more n l m h some = grind (arith, nat_tests)

pub within_none : (a : Expr) (m : ℕ) → m ≡ 0 → nat_le (levels a) m ≡ false
within_none a m h = let some = some_level a in grind (arith, nat_tests)

-- ---- lists

list_next : (all : List Expr) (i : ℕ) (d : Expr) → i < length all → list_levels (drop i all) ≡ max (levels (get_or all i d)) (list_levels (drop (suc i) all))
list_next all i d h = rw (drop-cons all i d) refl

pub list_more : (all : List Expr) (i : ℕ) (d : Expr) (m : ℕ) → i < length all → nat_le (levels (get_or all i d)) m ≡ true → nat_le (list_levels (drop i all)) m ≡ nat_le (list_levels (drop (i + 1) all)) m
list_more all i d m h t = rw (list_next all i d h, within_both, t, add-one) refl

pub list_stops : (all : List Expr) (i : ℕ) (d : Expr) (m : ℕ) → i < length all → nat_le (levels (get_or all i d)) m ≡ false → nat_le (list_levels (drop i all)) m ≡ false
list_stops all i d m h t = rw (list_next all i d h, within_both, t) refl

named_next : (all : List (Named Expr)) (i : ℕ) (d : Named Expr) → i < length all → named_levels (drop i all) ≡ max (levels (get_or all i d).value) (named_levels (drop (suc i) all))
named_next all i d h = rw (drop-cons all i d) refl

pub named_more : (all : List (Named Expr)) (i : ℕ) (d : Named Expr) (m : ℕ) → i < length all → nat_le (levels (get_or all i d).value) m ≡ true → nat_le (named_levels (drop i all)) m ≡ nat_le (named_levels (drop (i + 1) all)) m
named_more all i d m h t = rw (named_next all i d h, within_both, t, add-one) refl

pub named_stops : (all : List (Named Expr)) (i : ℕ) (d : Named Expr) (m : ℕ) → i < length all → nat_le (levels (get_or all i d).value) m ≡ false → nat_le (named_levels (drop i all)) m ≡ false
named_stops all i d m h t = rw (named_next all i d h, within_both, t) refl

summaries_next : (all : List (Named (SummaryTerm Expr))) (i : ℕ) (d : Named (SummaryTerm Expr)) → i < length all → summaries_levels (drop i all) ≡ max (summary_levels (get_or all i d).value) (summaries_levels (drop (suc i) all))
summaries_next all i d h = rw (drop-cons all i d) refl

pub summaries_more : (all : List (Named (SummaryTerm Expr))) (i : ℕ) (d : Named (SummaryTerm Expr)) (m : ℕ) → i < length all → nat_le (summary_levels (get_or all i d).value) m ≡ true → nat_le (summaries_levels (drop i all)) m ≡ nat_le (summaries_levels (drop (i + 1) all)) m
summaries_more all i d m h t = rw (summaries_next all i d h, within_both, t, add-one) refl

pub summaries_stop : (all : List (Named (SummaryTerm Expr))) (i : ℕ) (d : Named (SummaryTerm Expr)) (m : ℕ) → i < length all → nat_le (summary_levels (get_or all i d).value) m ≡ false → nat_le (summaries_levels (drop i all)) m ≡ false
summaries_stop all i d m h t = rw (summaries_next all i d h, within_both, t) refl

-- ---- forms

pub call_within : (a : Expr) (x : List ℕ) (all : List Expr) (m : ℕ) → a ≡ e.Call x all → (m ≡ 0 → ⊥) → nat_le (levels a) m ≡ nat_le (list_levels all) (m - 1)
call_within a x all m h some = within_more (list_levels all) (levels a) m (ap levels h ∙ of_call x all) some

pub relation_within : (a : Expr) (k : Option (List (Named TypeExpr))) (all : List Expr) (m : ℕ) → a ≡ e.Relation k all → (m ≡ 0 → ⊥) → nat_le (levels a) m ≡ nat_le (list_levels all) (m - 1)
relation_within a k all m h some = within_more (list_levels all) (levels a) m (ap levels h ∙ of_relation k all) some

pub tuple_within : (a : Expr) (xs : List (Named Expr)) (m : ℕ) → a ≡ e.Tuple xs → (m ≡ 0 → ⊥) → nat_le (levels a) m ≡ nat_le (named_levels xs) (m - 1)
tuple_within a xs m h some = within_more (named_levels xs) (levels a) m (ap levels h ∙ of_tuple xs) some

more_and : (n k l m : ℕ) → l ≡ suc (max n k) → (m ≡ 0 → ⊥) → nat_le n (m - 1) ≡ true → nat_le l m ≡ nat_le k (m - 1)
more_and n k l m h some t = within_more (max n k) l m h some ∙ within_both n k (m - 1) ∙ ap (λ b. b && nat_le k (m - 1)) t

more_and_first : (n k l m : ℕ) → l ≡ suc (max n k) → (m ≡ 0 → ⊥) → nat_le k (m - 1) ≡ true → nat_le l m ≡ nat_le n (m - 1)
more_and_first n k l m h some t = within_more (max n k) l m h some ∙ grind (arith, nat_tests)

pub extend_within : (a : Expr) (k : Extension) (c : Expr) (xs : List (Named Expr)) (m : ℕ) → a ≡ e.Extend k c xs → (m ≡ 0 → ⊥) → nat_le (levels c) (m - 1) ≡ true → nat_le (levels a) m ≡ nat_le (named_levels xs) (m - 1)
extend_within a k c xs m h some t = more_and (levels c) (named_levels xs) (levels a) m (ap levels h ∙ of_extend k c xs) some t

pub with_within : (a : Expr) (xs : List (Named Expr)) (c : Expr) (m : ℕ) → a ≡ e.With xs c → (m ≡ 0 → ⊥) → nat_le (levels c) (m - 1) ≡ true → nat_le (levels a) m ≡ nat_le (named_levels xs) (m - 1)
with_within a xs c m h some t = more_and_first (named_levels xs) (levels c) (levels a) m (ap levels h ∙ of_with xs c) some t

fails : (n k l m : ℕ) → l ≡ suc (max n k) → (m ≡ 0 → ⊥) → nat_le n (m - 1) ≡ false → nat_le l m ≡ false
fails n k l m h some t = within_more (max n k) l m h some ∙ within_both n k (m - 1) ∙ ap (λ b. b && nat_le k (m - 1)) t

pub summarize_within : (a : Expr) (c : Expr) (g : Groups Expr) (xs : List (Named (SummaryTerm Expr))) (m : ℕ) → a ≡ e.Summarize c g xs → (m ≡ 0 → ⊥) → nat_le (groups_levels g) (m - 1) ≡ true → nat_le (levels c) (m - 1) ≡ true → nat_le (levels a) m ≡ nat_le (summaries_levels xs) (m - 1)
summarize_within a c g xs m h some t u =
    more_and (levels c) (max (groups_levels g) (summaries_levels xs)) (levels a) m (ap levels h ∙ of_summarize c g xs) some u
    ∙ within_both (groups_levels g) (summaries_levels xs) (m - 1) ∙ ap (λ b. b && nat_le (summaries_levels xs) (m - 1)) t
