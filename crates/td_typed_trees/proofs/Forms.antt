-- What each form mentions.
use Rattle.std.proofs.Common.{◌≡◌, ℕ, List, [], ◌∷◌, ◌++◌, map, refl, ap, sym, ◌∙◌, append_assoc, rules}
use Rattle.td_values.specs.Data.{Ty}
use Rattle.td_values.specs.Headings.{Header}
use Rattle.td_syntax.specs.declared.tree.Named.{Named}
use Rattle.td_syntax.specs.declared.tree.UnaryOperator.{UnaryOperator}
use Rattle.td_syntax.specs.declared.tree.BinaryOperator.{BinaryOperator}
use Rattle.td_tuples.specs.declared.items.Item.{Item}
use Rattle.td_tuples.specs.declared.items.Summary.{Summary}
use Rattle.td_tuples.specs.declared.items.Summary.TheVariants as summary
use Rattle.td_typed_trees.specs.declared.mentions.Mention.TheVariants as mention
use Rattle.td_typed_trees.specs.declared.tree.TypedGroups.{TypedGroups}
use Rattle.td_typed_trees.specs.declared.tree.TypedGroups.TheVariants as groups
use Rattle.td_typed_trees.specs.declared.tree.Typed.{Typed, the_lemmas}
use Rattle.td_typed_trees.specs.declared.tree.Typed.TheVariants as t
use Rattle.td_typed_trees.specs.declared.tree.Typed.TheOpen.{Typed-F}
use Rattle.td_typed_trees.specs.declared.tree.Typed.TheFolds.{fold-roll-Typed}
use Rattle.td_typed_trees.specs.declared.tree.Typed.TheShapes.{former-Typed-Summarize-2-at-13}
use Rattle.td_typed_trees.specs.Mentions.{Mentions, mentioned, mentioned_step, of_all, of_items, of_named, mentioned_by_summary, of_summaries}
use Rattle.td_typed_trees.specs.ForProofs.Mentioned.{list_mentioned, items_mentioned, named_mentioned, summary_mentioned, summaries_mentioned, groups_mentioned}

list_of : (all : List Typed) → of_all (map mentioned all) ≡ list_mentioned all
list_of [] = refl
list_of (a ∷ all) = ap (λ ms. mentioned a ++ ms) (list_of all)

pub of_select : (n : ℕ) (all : List Typed) → mentioned (t.Select n all) ≡ mention.Possrep n ∷ list_mentioned all
of_select n all = search (rules, the_lemmas, list_of)

pub of_relation : (h : Header) (all : List Typed) → mentioned (t.Relation h all) ≡ list_mentioned all
of_relation h all = search (rules, the_lemmas, list_of)

pub of_relvar : (n : ℕ) → mentioned (t.Relvar n) ≡ mention.Relvar n ∷ []
of_relvar n = search (rules, the_lemmas)

pub of_unary : (o : UnaryOperator) (a : Typed) → mentioned (t.Unary o a) ≡ mentioned a
of_unary o a = search (rules, the_lemmas)

pub of_where : (a b : Typed) → mentioned (t.Where a b) ≡ mentioned a ++ mentioned b
of_where a b = search (rules, the_lemmas)

pub of_choice : (a b c : Typed) → mentioned (t.If a b c) ≡ mentioned a ++ (mentioned b ++ mentioned c)
of_choice a b c = search (rules, the_lemmas)

pub of_binary : (o : BinaryOperator) (a b : Typed) → mentioned (t.Binary o a b) ≡ mentioned a ++ mentioned b
of_binary o a b = search (rules, the_lemmas)

abbrev item_of : Item Typed → Item Mentions
item_of i = record { name = i.name; ty = i.ty; term = mentioned i.term }

items_of : (all : List (Item Typed)) → of_items (map item_of all) ≡ items_mentioned all
items_of [] = refl
items_of (i ∷ all) = ap (λ ms. mentioned i.term ++ ms) (items_of all)

pub of_tuple : (all : List (Item Typed)) → mentioned (t.Tuple all) ≡ items_mentioned all
of_tuple all = search (rules, the_lemmas, items_of)

pub of_extend : (a : Typed) (all : List (Item Typed)) → mentioned (t.Extend a all) ≡ mentioned a ++ items_mentioned all
of_extend a all = search (rules, the_lemmas, items_of)

abbrev named_of : Named Typed → Named Mentions
named_of n = record { name = n.name; value = mentioned n.value }

all_named : (all : List (Named Typed)) → of_named (map named_of all) ≡ named_mentioned all
all_named [] = refl
all_named (n ∷ all) = ap (λ ms. mentioned n.value ++ ms) (all_named all)

pub of_with : (all : List (Named Typed)) (a : Typed) → mentioned (t.With all a) ≡ named_mentioned all ++ mentioned a
of_with all a = search (rules, the_lemmas, all_named)

pub of_aggregate : (a : Typed) (s : Summary Typed) → mentioned (t.Aggregate a s) ≡ mentioned a ++ summary_mentioned s
of_aggregate a summary.Count = search (rules, the_lemmas)
of_aggregate a (summary.Sum b) = search (rules, the_lemmas)
of_aggregate a (summary.Max b) = search (rules, the_lemmas)
of_aggregate a (summary.Min b) = search (rules, the_lemmas)
of_aggregate a (summary.And b) = search (rules, the_lemmas)
of_aggregate a (summary.Or b) = search (rules, the_lemmas)

abbrev summary_item_of : Item (Summary Typed) → Item (Summary Mentions)
summary_item_of = former-Typed-Summarize-2-at-13.map Typed Mentions mentioned

of_one : (n : List ℕ) (ty : Ty) (s : Summary Typed) → mentioned_by_summary (summary_item_of (record { name = n; ty = ty; term = s })).term ≡ summary_mentioned s
of_one n ty summary.Count = refl
of_one n ty (summary.Sum a) = refl
of_one n ty (summary.Max a) = refl
of_one n ty (summary.Min a) = refl
of_one n ty (summary.And a) = refl
of_one n ty (summary.Or a) = refl

all_summaries : (all : List (Item (Summary Typed))) → of_summaries (map summary_item_of all) ≡ summaries_mentioned all
all_summaries [] = refl
all_summaries (i ∷ all) = rw (of_one i.name i.ty i.term, all_summaries all) refl

pub of_summarize : (a : Typed) (g : TypedGroups Typed) (all : List (Item (Summary Typed))) → mentioned (t.Summarize a g all) ≡ mentioned a ++ (groups_mentioned g ++ summaries_mentioned all)
of_summarize a groups.Whole all = ap mentioned (sym (t.rolls-Summarize a groups.Whole all)) ∙ (fold-roll-Typed Mentions mentioned_step (Typed-F.Summarize a groups.Whole all) ∙ ap (λ ms. mentioned a ++ ms) (all_summaries all))
of_summarize a (groups.Per b) all = ap mentioned (sym (t.rolls-Summarize a (groups.Per b) all)) ∙ (fold-roll-Typed Mentions mentioned_step (Typed-F.Summarize a (groups.Per b) all) ∙ ap (λ ms. mentioned a ++ (mentioned b ++ ms)) (all_summaries all))
of_summarize a (groups.By ns) all = ap mentioned (sym (t.rolls-Summarize a (groups.By ns) all)) ∙ (fold-roll-Typed Mentions mentioned_step (Typed-F.Summarize a (groups.By ns) all) ∙ ap (λ ms. mentioned a ++ ms) (all_summaries all))

-- what is added in two steps
pub in_two : (old ms ns : Mentions) → (old ++ ms) ++ ns ≡ old ++ (ms ++ ns)
in_two old ms ns = append_assoc old ms ns

pub summarized : (old f1 f2 : Mentions) (u a a2 : Typed) (g : TypedGroups Typed) (all all2 : List (Item (Summary Typed))) → u ≡ t.Summarize a g all → a2 ≡ a → all2 ≡ all → f1 ≡ old ++ mentioned a2 → f2 ≡ f1 ++ groups_mentioned g → f2 ++ summaries_mentioned all2 ≡ old ++ mentioned u
summarized old f1 f2 u a a2 g all all2 is j k h1 h2 =
    ap (λ f. f ++ summaries_mentioned all2) (h2 ∙ ap (λ f. f ++ groups_mentioned g) h1)
    ∙ append_assoc (old ++ mentioned a2) (groups_mentioned g) (summaries_mentioned all2)
    ∙ append_assoc old (mentioned a2) (groups_mentioned g ++ summaries_mentioned all2)
    ∙ ap (λ x. old ++ (mentioned x ++ (groups_mentioned g ++ summaries_mentioned all2))) j
    ∙ ap (λ xs. old ++ (mentioned a ++ (groups_mentioned g ++ summaries_mentioned xs))) k
    ∙ ap (λ ms. old ++ ms) (sym (ap mentioned is ∙ of_summarize a g all))
