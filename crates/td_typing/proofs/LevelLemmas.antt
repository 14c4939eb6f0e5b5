-- The measures of the recursion: an item of a list is no deeper than the list, and a list less deep than the form it is
-- in.
use Rattle.std.proofs.Common.{◌≡◌, ◌≤◌, ◌<◌, ◌+◌, ◌*◌, ℕ, zero, suc, max, List, [], ◌∷◌, length, get_or, Option, ap, ◌∙◌, arith}
use Rattle.td_syntax.specs.declared.tree.Named.{Named}
use Rattle.td_syntax.specs.declared.tree.SummaryTerm.{SummaryTerm}
use Rattle.td_syntax.specs.declared.tree.Extension.{Extension}
use Rattle.td_syntax.specs.declared.tree.Groups.{Groups}
use Rattle.td_syntax.specs.declared.tree.TypeExpr.{TypeExpr}
use Rattle.td_syntax.specs.declared.tree.Expr.{Expr}
use Rattle.td_syntax.specs.declared.tree.Expr.TheVariants as e
use Rattle.td_syntax.specs.Levels.{levels, named_levels}
use Rattle.td_syntax.specs.ForProofs.Parts.{list_levels, summary_levels, summaries_levels, groups_levels}
use Rattle.td_syntax.proofs.Depths.{of_call, of_relation, of_tuple, of_extend, of_with, of_summarize}
use Rattle.td_schema.specs.Kinds.{Name}

list_item : (xs : List Expr) (i : ℕ) (d : Expr) → i < length xs → levels (get_or xs i d) ≤ list_levels xs
list_item [] i d h = omega (arith, h)
list_item (x ∷ xs) zero d h = omega arith
list_item (x ∷ xs) (suc i) d h = omega (arith, list_item xs i d (omega (arith, h)))

named_item : (xs : List (Named Expr)) (i : ℕ) (d : Named Expr) → i < length xs → levels (get_or xs i d).value ≤ named_levels xs
named_item [] i d h = omega (arith, h)
named_item (x ∷ xs) zero d h = omega arith
named_item (x ∷ xs) (suc i) d h = omega (arith, named_item xs i d (omega (arith, h)))

summary_item : (xs : List (Named (SummaryTerm Expr))) (i : ℕ) (d : Named (SummaryTerm Expr)) → i < length xs → summary_levels (get_or xs i d).value ≤ summaries_levels xs
summary_item [] i d h = omega (arith, h)
summary_item (x ∷ xs) zero d h = omega arith
summary_item (x ∷ xs) (suc i) d h = omega (arith, summary_item xs i d (omega (arith, h)))

-- an item x of the list, as it is read, and its part a
pub in_list : (xs : List Expr) (i : ℕ) (x a : Expr) → i < length xs → x ≡ get_or xs i x → a ≡ x → levels a ≤ list_levels xs
in_list xs i x a h is value = let e = ap levels value ∙ ap levels is in omega (arith, e, list_item xs i x h)

pub in_named : (xs : List (Named Expr)) (i : ℕ) (x : Named Expr) (a : Expr) → i < length xs → x ≡ get_or xs i x → a ≡ x.value → levels a ≤ named_levels xs
in_named xs i x a h is value = let e = ap levels value ∙ ap (λ (y : Named Expr). levels y.value) is in omega (arith, e, named_item xs i x h)

pub in_summaries : (xs : List (Named (SummaryTerm Expr))) (i : ℕ) (x : Named (SummaryTerm Expr)) → i < length xs → x ≡ get_or xs i x → summary_levels x.value ≤ summaries_levels xs
in_summaries xs i x h is = let e = ap (λ (y : Named (SummaryTerm Expr)). summary_levels y.value) is in omega (arith, e, summary_item xs i x h)

-- ---- a form with a list, as its parts are handed on

pub call_falls : (a : Expr) (x : Name) (xs ys : List Expr) → a ≡ e.Call x xs → ys ≡ xs → 5 * list_levels ys + 3 < 5 * levels a
call_falls a x xs ys is same = omega (arith, ap levels is, of_call x xs, ap list_levels same)

pub relation_falls : (a : Expr) (h : Option (List (Named TypeExpr))) (xs ys : List Expr) → a ≡ e.Relation h xs → ys ≡ xs → 5 * list_levels ys + 2 < 5 * levels a
relation_falls a h xs ys is same = omega (arith, ap levels is, of_relation h xs, ap list_levels same)

pub tuple_falls : (a : Expr) (xs ys : List (Named Expr)) → a ≡ e.Tuple xs → ys ≡ xs → 5 * named_levels ys + 2 < 5 * levels a
tuple_falls a xs ys is same = omega (arith, ap levels is, of_tuple xs, ap named_levels same)

pub extend_falls : (a : Expr) (o : Extension) (b c : Expr) (xs ys : List (Named Expr)) → a ≡ e.Extend o b xs → c ≡ b → ys ≡ xs → 5 * max (levels c) (named_levels ys) + 2 < 5 * levels a
extend_falls a o b c xs ys is one same = omega (arith, ap levels is, of_extend o b xs, ap levels one, ap named_levels same)

pub with_falls : (a b c : Expr) (xs ys : List (Named Expr)) → a ≡ e.With xs b → c ≡ b → ys ≡ xs → 5 * max (named_levels ys) (levels c) + 2 < 5 * levels a
with_falls a b c xs ys is one same = omega (arith, ap levels is, of_with xs b, ap levels one, ap named_levels same)

pub summarize_falls : (a b c : Expr) (g : Groups Expr) (xs ys : List (Named (SummaryTerm Expr))) → a ≡ e.Summarize b g xs → c ≡ b → ys ≡ xs → 5 * max (levels c) (max (groups_levels g) (summaries_levels ys)) + 3 < 5 * levels a
summarize_falls a b c g xs ys is one same = omega (arith, ap levels is, of_summarize b g xs, ap levels one, ap summaries_levels same)
