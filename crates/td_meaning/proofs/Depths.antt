-- The levels of each form.
use Rattle.std.proofs.Common.{◌≡◌, ℕ, suc, max, List, [], ◌∷◌, map, refl, ap, sym, ◌∙◌, rules}
use Rattle.td_values.specs.Data.{Ty}
use Rattle.td_values.specs.Headings.{Header}
use Rattle.td_syntax.specs.declared.tree.BinaryOperator.{BinaryOperator}
use Rattle.td_syntax.specs.declared.tree.Named.{Named}
use Rattle.td_syntax.specs.declared.tree.Nesting.{Nesting}
use Rattle.td_syntax.specs.declared.tree.UnaryOperator.{UnaryOperator}
use Rattle.td_tuples.specs.declared.items.Item.{Item}
use Rattle.td_tuples.specs.declared.items.Summary.{Summary}
use Rattle.td_tuples.specs.declared.items.Summary.TheVariants as summary
use Rattle.td_typed_trees.specs.declared.tree.TypedGroups.{TypedGroups}
use Rattle.td_typed_trees.specs.declared.tree.TypedGroups.TheVariants as groups
use Rattle.td_typed_trees.specs.declared.tree.Typed.{Typed, the_lemmas}
use Rattle.td_typed_trees.specs.declared.tree.Typed.TheVariants as t
use Rattle.td_typed_trees.specs.declared.tree.Typed.TheOpen.{Typed-F}
use Rattle.td_typed_trees.specs.declared.tree.Typed.TheFolds.{fold-roll-Typed}
use Rattle.td_typed_trees.specs.declared.tree.Typed.TheShapes.{former-Typed-Summarize-2-at-13}
use Rattle.td_meaning.specs.ForProofs.Levels.{deepest, deepest_item, deepest_named, deepest_summary, of_summary, levels, levels_step, list_levels, item_levels, named_levels, summary_levels, summaries_levels, groups_levels}

list_of : (all : List Typed) → deepest (map levels all) ≡ list_levels all
list_of [] = refl
list_of (a ∷ all) = ap (max (levels a)) (list_of all)

abbrev item_of : Item Typed → Item ℕ
item_of x = record { name = x.name; ty = x.ty; term = levels x.term }

items_of : (xs : List (Item Typed)) → deepest_item (map item_of xs) ≡ item_levels xs
items_of [] = refl
items_of (x ∷ xs) = ap (max (levels x.term)) (items_of xs)

abbrev named_of : Named Typed → Named ℕ
named_of x = record { name = x.name; value = levels x.value }

all_named : (xs : List (Named Typed)) → deepest_named (map named_of xs) ≡ named_levels xs
all_named [] = refl
all_named (x ∷ xs) = ap (max (levels x.value)) (all_named xs)

abbrev summary_item_of : Item (Summary Typed) → Item (Summary ℕ)
summary_item_of = former-Typed-Summarize-2-at-13.map Typed ℕ levels

of_one : (n : List ℕ) (ty : Ty) (s : Summary Typed) → of_summary (summary_item_of (record { name = n; ty = ty; term = s })).term ≡ summary_levels s
of_one n ty summary.Count = refl
of_one n ty (summary.Sum a) = refl
of_one n ty (summary.Max a) = refl
of_one n ty (summary.Min a) = refl
of_one n ty (summary.And a) = refl
of_one n ty (summary.Or a) = refl

all_summaries : (xs : List (Item (Summary Typed))) → deepest_summary (map summary_item_of xs) ≡ summaries_levels xs
all_summaries [] = refl
all_summaries (x ∷ xs) = rw (of_one x.name x.ty x.term, all_summaries xs) refl

pub of_select : (n : ℕ) (all : List Typed) → levels (t.Select n all) ≡ suc (list_levels all)
of_select n all = search (rules, the_lemmas, list_of)

pub of_component : (n : ℕ) (a : Typed) → levels (t.Component n a) ≡ suc (levels a)
of_component n a = search (rules, the_lemmas)

pub of_tuple : (xs : List (Item Typed)) → levels (t.Tuple xs) ≡ suc (item_levels xs)
of_tuple xs = search (rules, the_lemmas, items_of)

pub of_relation : (h : Header) (all : List Typed) → levels (t.Relation h all) ≡ suc (list_levels all)
of_relation h all = search (rules, the_lemmas, list_of)

pub of_unary : (o : UnaryOperator) (a : Typed) → levels (t.Unary o a) ≡ suc (levels a)
of_unary o a = search (rules, the_lemmas)

pub of_binary : (o : BinaryOperator) (a b : Typed) → levels (t.Binary o a b) ≡ suc (max (levels a) (levels b))
of_binary o a b = search (rules, the_lemmas)

pub of_from : (x : List ℕ) (a : Typed) → levels (t.From x a) ≡ suc (levels a)
of_from x a = search (rules, the_lemmas)

pub of_project : (a : Typed) (xs : List (List ℕ)) → levels (t.Project a xs) ≡ suc (levels a)
of_project a xs = search (rules, the_lemmas)

pub of_where : (a b : Typed) → levels (t.Where a b) ≡ suc (max (levels a) (levels b))
of_where a b = search (rules, the_lemmas)

pub of_rename : (a : Typed) (xs : List (List ℕ × List ℕ)) → levels (t.Rename a xs) ≡ suc (levels a)
of_rename a xs = search (rules, the_lemmas)

pub of_nest : (o : Nesting) (a : Typed) (xs : List (List ℕ)) (c : List ℕ) → levels (t.Nest o a xs c) ≡ suc (levels a)
of_nest o a xs c = search (rules, the_lemmas)

pub of_unnest : (o : Nesting) (a : Typed) (c : List ℕ) → levels (t.Unnest o a c) ≡ suc (levels a)
of_unnest o a c = search (rules, the_lemmas)

pub of_aggregate : (a : Typed) (s : Summary Typed) → levels (t.Aggregate a s) ≡ suc (max (levels a) (summary_levels s))
of_aggregate a summary.Count = search (rules, the_lemmas)
of_aggregate a (summary.Sum b) = search (rules, the_lemmas)
of_aggregate a (summary.Max b) = search (rules, the_lemmas)
of_aggregate a (summary.Min b) = search (rules, the_lemmas)
of_aggregate a (summary.And b) = search (rules, the_lemmas)
of_aggregate a (summary.Or b) = search (rules, the_lemmas)

pub of_choice : (a b c : Typed) → levels (t.If a b c) ≡ suc (max (levels a) (max (levels b) (levels c)))
of_choice a b c = search (rules, the_lemmas)

pub of_extend : (a : Typed) (xs : List (Item Typed)) → levels (t.Extend a xs) ≡ suc (max (levels a) (item_levels xs))
of_extend a xs = search (rules, the_lemmas, items_of)

pub of_summarize : (a : Typed) (g : TypedGroups Typed) (xs : List (Item (Summary Typed))) → levels (t.Summarize a g xs) ≡ suc (max (levels a) (max (groups_levels g) (summaries_levels xs)))
of_summarize a groups.Whole xs = ap levels (sym (t.rolls-Summarize a groups.Whole xs)) ∙ (fold-roll-Typed ℕ levels_step (Typed-F.Summarize a groups.Whole xs) ∙ ap (λ n. suc (max (levels a) (max 0 n))) (all_summaries xs))
of_summarize a (groups.Per b) xs = ap levels (sym (t.rolls-Summarize a (groups.Per b) xs)) ∙ (fold-roll-Typed ℕ levels_step (Typed-F.Summarize a (groups.Per b) xs) ∙ ap (λ n. suc (max (levels a) (max (levels b) n))) (all_summaries xs))
of_summarize a (groups.By ys) xs = ap levels (sym (t.rolls-Summarize a (groups.By ys) xs)) ∙ (fold-roll-Typed ℕ levels_step (Typed-F.Summarize a (groups.By ys) xs) ∙ ap (λ n. suc (max (levels a) (max 0 n))) (all_summaries xs))

pub of_with : (xs : List (Named Typed)) (a : Typed) → levels (t.With xs a) ≡ suc (max (named_levels xs) (levels a))
of_with xs a = search (rules, the_lemmas, all_named)
