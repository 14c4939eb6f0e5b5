-- What an expression means goes by the relvars and the possreps that it names.
use Rattle.std.proofs.Common.{◌≡◌, ℕ, List, [], ◌∷◌, ◌++◌, map, refl, ap, sym, ◌∙◌, subst, arith}
use Rattle.std.specs.List.{Contains}
use Rattle.std.proofs.lemmas.List.Elements.{Contains-append_left, Contains-append_right}
use Rattle.td_values.specs.Data.{Ty}
use Rattle.td_syntax.specs.declared.tree.Named.{Named}
use Rattle.td_tuples.specs.declared.items.Item.{Item}
use Rattle.td_tuples.specs.declared.items.Summary.{Summary}
use Rattle.td_tuples.specs.declared.items.Summary.TheVariants as summary
use Rattle.td_typed_trees.specs.Mentions.{Mentions, mentioned, mentioned_step, of_all, of_items, of_named, mentioned_by_summary, of_summaries, relvars_in, possreps_in}
use Rattle.td_typed_trees.specs.declared.mentions.Mention.TheVariants as mention
use Rattle.td_typed_trees.specs.declared.tree.TypedGroups.TheVariants as groups
use Rattle.td_typed_trees.specs.declared.tree.Typed.{Typed, map-Typed}
use Rattle.td_typed_trees.specs.declared.tree.Typed.TheOpen.{Typed-F}
use Rattle.td_typed_trees.specs.declared.tree.Typed.TheViews.{roll-Typed}
use Rattle.td_typed_trees.specs.declared.tree.Typed.TheFolds.{fold-roll-Typed, ind-Typed}
use Rattle.td_typed_trees.specs.declared.tree.Typed.TheShapes.{former-Typed-Summarize-2-at-13}
use Rattle.td_algebra.specs.Raising.{and_then}
use Rattle.td_meaning.specs.Mean.{Meaning, Relvars, Selection, mean, mean_step, at, mean_relvar, mean_by, mean_binary, mean_if, mean_select, mean_relation, mean_tuple, mean_with, mean_where, mean_aggregate, mean_extend, mean_summarize}
use Rattle.td_operators.specs.Operators.{operate_on, component_at, attribute_at, part_at, with_new_names, nested, unnested, in_turn, as_value}

pub relvars_append : (ms ns : Mentions) → relvars_in (ms ++ ns) ≡ relvars_in ms ++ relvars_in ns
relvars_append [] ns = refl
relvars_append (mention.Relvar n ∷ ms) ns = ap (λ l. n ∷ l) (relvars_append ms ns)
relvars_append (mention.Possrep n ∷ ms) ns = relvars_append ms ns

pub possreps_append : (ms ns : Mentions) → possreps_in (ms ++ ns) ≡ possreps_in ms ++ possreps_in ns
possreps_append [] ns = refl
possreps_append (mention.Relvar n ∷ ms) ns = possreps_append ms ns
possreps_append (mention.Possrep n ∷ ms) ns = ap (λ l. n ∷ l) (possreps_append ms ns)

module _ (r s : Relvars) (p q : Selection) where
  -- they have the same at the relvars among these, and make the same at the possreps
  abbrev Agree : Mentions → Type 0
  Agree ms = ((n : ℕ) → Contains (relvars_in ms) n → r n ≡ s n) × ((n : ℕ) → Contains (possreps_in ms) n → p n ≡ q n)

  front : (ms ns : Mentions) → Agree (ms ++ ns) → Agree ms
  front ms ns same = (
    (λ n h. same.0 n (subst (λ l. Contains l n) (sym (relvars_append ms ns)) (Contains-append_left (relvars_in ms) (relvars_in ns) n h))),
    (λ n h. same.1 n (subst (λ l. Contains l n) (sym (possreps_append ms ns)) (Contains-append_left (possreps_in ms) (possreps_in ns) n h))),
  )

  behind : (ms ns : Mentions) → Agree (ms ++ ns) → Agree ns
  behind ms ns same = (
    (λ n h. same.0 n (subst (λ l. Contains l n) (sym (relvars_append ms ns)) (Contains-append_right (relvars_in ms) (relvars_in ns) n h))),
    (λ n h. same.1 n (subst (λ l. Contains l n) (sym (possreps_append ms ns)) (Contains-append_right (possreps_in ms) (possreps_in ns) n h))),
  )

  operands : (n : ℕ) (ms : Mentions) → Agree (mention.Possrep n ∷ ms) → Agree ms
  operands n ms same = (same.0, λ m h. same.1 m (Contains-append_right (n ∷ []) (possreps_in ms) m h))

  abbrev Same : Typed → Type 0
  Same u = Agree (mentioned u) → mean r p u ≡ mean s q u

  abbrev Part : Type 0
  Part = (a : Typed) × Same a

  abbrev tree : Part → Typed
  tree a = a.0

  abbrev in_r : Typed → Meaning
  in_r = mean r p

  abbrev in_s : Typed → Meaning
  in_s = mean s q

  abbrev with_term : {E F : Type 0} → (E → F) → Item E → Item F
  with_term f i = record { name = i.name; ty = i.ty; term = f i.term }

  abbrev with_value : {E F : Type 0} → (E → F) → Named E → Named F
  with_value f n = record { name = n.name; value = f n.value }

  -- ---- lists of parts
  list_same : (all : List Part) → Agree (of_all (map mentioned (map tree all))) → map in_r (map tree all) ≡ map in_s (map tree all)
  list_same [] same = refl
  list_same (a ∷ all) same =
      let rest = of_all (map mentioned (map tree all)) in
      let here = a.1 (front (mentioned a.0) rest same) in
      let later = list_same all (behind (mentioned a.0) rest same) in
      λ i. here i ∷ later i

  items_same : (all : List (Item Part)) → Agree (of_items (map (with_term mentioned) (map (with_term tree) all))) → map (with_term in_r) (map (with_term tree) all) ≡ map (with_term in_s) (map (with_term tree) all)
  items_same [] same = refl
  items_same (a ∷ all) same =
      let rest = of_items (map (with_term mentioned) (map (with_term tree) all)) in
      let here = a.term.1 (front (mentioned a.term.0) rest same) in
      let later = items_same all (behind (mentioned a.term.0) rest same) in
      λ i. record { name = a.name; ty = a.ty; term = here i } ∷ later i

  named_same : (all : List (Named Part)) → Agree (of_named (map (with_value mentioned) (map (with_value tree) all))) → map (with_value in_r) (map (with_value tree) all) ≡ map (with_value in_s) (map (with_value tree) all)
  named_same [] same = refl
  named_same (a ∷ all) same =
      let rest = of_named (map (with_value mentioned) (map (with_value tree) all)) in
      let here = a.value.1 (front (mentioned a.value.0) rest same) in
      let later = named_same all (behind (mentioned a.value.0) rest same) in
      λ i. record { name = a.name; value = here i } ∷ later i

  -- ---- summaries
  abbrev summary_trees : Item (Summary Part) → Item (Summary Typed)
  summary_trees = former-Typed-Summarize-2-at-13.map Part Typed tree

  abbrev summary_mentions : Item (Summary Typed) → Item (Summary Mentions)
  summary_mentions = former-Typed-Summarize-2-at-13.map Typed Mentions mentioned

  abbrev summary_in_r : Item (Summary Typed) → Item (Summary Meaning)
  summary_in_r = former-Typed-Summarize-2-at-13.map Typed Meaning in_r

  abbrev summary_in_s : Item (Summary Typed) → Item (Summary Meaning)
  summary_in_s = former-Typed-Summarize-2-at-13.map Typed Meaning in_s

  one_same : (n : List ℕ) (ty : Ty) (x : Summary Part) → Agree (mentioned_by_summary (summary_mentions (summary_trees (record { name = n; ty = ty; term = x }))).term) → summary_in_r (summary_trees (record { name = n; ty = ty; term = x })) ≡ summary_in_s (summary_trees (record { name = n; ty = ty; term = x }))
  one_same n ty summary.Count same = refl
  one_same n ty (summary.Sum a) same = ap (λ m. record { name = n; ty = ty; term = summary.Sum m }) (a.1 same)
  one_same n ty (summary.Max a) same = ap (λ m. record { name = n; ty = ty; term = summary.Max m }) (a.1 same)
  one_same n ty (summary.Min a) same = ap (λ m. record { name = n; ty = ty; term = summary.Min m }) (a.1 same)
  one_same n ty (summary.And a) same = ap (λ m. record { name = n; ty = ty; term = summary.And m }) (a.1 same)
  one_same n ty (summary.Or a) same = ap (λ m. record { name = n; ty = ty; term = summary.Or m }) (a.1 same)

  summaries_same : (all : List (Item (Summary Part))) → Agree (of_summaries (map summary_mentions (map summary_trees all))) → map summary_in_r (map summary_trees all) ≡ map summary_in_s (map summary_trees all)
  summaries_same [] same = refl
  summaries_same (x ∷ all) same =
      let first = mentioned_by_summary (summary_mentions (summary_trees x)).term in
      let rest = of_summaries (map summary_mentions (map summary_trees all)) in
      let here = one_same x.name x.ty x.term (front first rest same) in
      let later = summaries_same all (behind first rest same) in
      λ i. here i ∷ later i

  -- ---- the forms
  relvar_same : (n : ℕ) → r n ≡ s n → mean_relvar r n ≡ mean_relvar s n
  unfolding mean_relvar
  relvar_same n same = λ i names. and_then (same i) as_value

  select_same : (n : ℕ) (xs ys : List Meaning) → p n ≡ q n → xs ≡ ys → mean_select p n xs ≡ mean_select q n ys
  unfolding mean_select
  select_same n xs ys same all = λ i names. and_then (in_turn (at names) (all i)) (same i)

  by_parts : (z : Typed-F Typed) → (Agree (mentioned_step (map-Typed Typed Mentions mentioned z)) → mean_step r p (map-Typed Typed Meaning in_r z) ≡ mean_step s q (map-Typed Typed Meaning in_s z)) → Same (roll-Typed z)
  by_parts z h same =
      fold-roll-Typed Meaning (mean_step r p) z
      ∙ h (subst Agree (fold-roll-Typed Mentions mentioned_step z) same)
      ∙ sym (fold-roll-Typed Meaning (mean_step s q) z)

  step : (y : Typed-F Part) → Same (roll-Typed (map-Typed Part Typed tree y))
  step (Typed-F.Integer n) = by_parts (Typed-F.Integer n) (λ same. refl)
  step (Typed-F.Text x) = by_parts (Typed-F.Text x) (λ same. refl)
  step (Typed-F.Truth b) = by_parts (Typed-F.Truth b) (λ same. refl)
  step (Typed-F.Local x) = by_parts (Typed-F.Local x) (λ same. refl)
  step (Typed-F.Relvar n) = by_parts (Typed-F.Relvar n) (λ same. relvar_same n (same.0 n (0, omega arith, refl)))
  step (Typed-F.Select n all) = by_parts (Typed-F.Select n (map tree all)) (λ same. select_same n (map in_r (map tree all)) (map in_s (map tree all)) (same.1 n (0, omega arith, refl)) (list_same all (operands n (of_all (map mentioned (map tree all))) same)))
  step (Typed-F.Component c a) = by_parts (Typed-F.Component c a.0) (λ same i names. mean_by (component_at c) (a.1 same i) names)
  step (Typed-F.Tuple all) = by_parts (Typed-F.Tuple (map (with_term tree) all)) (λ same i names. mean_tuple (items_same all same i) names)
  step (Typed-F.Relation h all) = by_parts (Typed-F.Relation h (map tree all)) (λ same i names. mean_relation h (list_same all same i) names)
  step (Typed-F.Unary o a) = by_parts (Typed-F.Unary o a.0) (λ same i names. mean_by (operate_on o) (a.1 same i) names)
  step (Typed-F.Binary o a b) = by_parts (Typed-F.Binary o a.0 b.0) (λ same i names. mean_binary o (a.1 (front (mentioned a.0) (mentioned b.0) same) i) (b.1 (behind (mentioned a.0) (mentioned b.0) same) i) names)
  step (Typed-F.From x a) = by_parts (Typed-F.From x a.0) (λ same i names. mean_by (attribute_at x) (a.1 same i) names)
  step (Typed-F.Project a xs) = by_parts (Typed-F.Project a.0 xs) (λ same i names. mean_by (part_at xs) (a.1 same i) names)
  step (Typed-F.Where a b) = by_parts (Typed-F.Where a.0 b.0) (λ same i names. mean_where (a.1 (front (mentioned a.0) (mentioned b.0) same) i) (b.1 (behind (mentioned a.0) (mentioned b.0) same) i) names)
  step (Typed-F.Rename a xs) = by_parts (Typed-F.Rename a.0 xs) (λ same i names. mean_by (with_new_names xs) (a.1 same i) names)
  step (Typed-F.Nest o a xs c) = by_parts (Typed-F.Nest o a.0 xs c) (λ same i names. mean_by (nested o xs c) (a.1 same i) names)
  step (Typed-F.Unnest o a c) = by_parts (Typed-F.Unnest o a.0 c) (λ same i names. mean_by (unnested o c) (a.1 same i) names)
  step (Typed-F.Aggregate a summary.Count) = by_parts (Typed-F.Aggregate a.0 summary.Count) (λ same i names. mean_aggregate (a.1 (front (mentioned a.0) [] same) i) summary.Count names)
  step (Typed-F.Aggregate a (summary.Sum b)) = by_parts (Typed-F.Aggregate a.0 (summary.Sum b.0)) (λ same i names. mean_aggregate (a.1 (front (mentioned a.0) (mentioned b.0) same) i) (summary.Sum (b.1 (behind (mentioned a.0) (mentioned b.0) same) i)) names)
  step (Typed-F.Aggregate a (summary.Max b)) = by_parts (Typed-F.Aggregate a.0 (summary.Max b.0)) (λ same i names. mean_aggregate (a.1 (front (mentioned a.0) (mentioned b.0) same) i) (summary.Max (b.1 (behind (mentioned a.0) (mentioned b.0) same) i)) names)
  step (Typed-F.Aggregate a (summary.Min b)) = by_parts (Typed-F.Aggregate a.0 (summary.Min b.0)) (λ same i names. mean_aggregate (a.1 (front (mentioned a.0) (mentioned b.0) same) i) (summary.Min (b.1 (behind (mentioned a.0) (mentioned b.0) same) i)) names)
  step (Typed-F.Aggregate a (summary.And b)) = by_parts (Typed-F.Aggregate a.0 (summary.And b.0)) (λ same i names. mean_aggregate (a.1 (front (mentioned a.0) (mentioned b.0) same) i) (summary.And (b.1 (behind (mentioned a.0) (mentioned b.0) same) i)) names)
  step (Typed-F.Aggregate a (summary.Or b)) = by_parts (Typed-F.Aggregate a.0 (summary.Or b.0)) (λ same i names. mean_aggregate (a.1 (front (mentioned a.0) (mentioned b.0) same) i) (summary.Or (b.1 (behind (mentioned a.0) (mentioned b.0) same) i)) names)
  step (Typed-F.If a b c) = by_parts (Typed-F.If a.0 b.0 c.0) (λ same i names. mean_if (a.1 (front (mentioned a.0) (mentioned b.0 ++ mentioned c.0) same) i) (b.1 (front (mentioned b.0) (mentioned c.0) (behind (mentioned a.0) (mentioned b.0 ++ mentioned c.0) same)) i) (c.1 (behind (mentioned b.0) (mentioned c.0) (behind (mentioned a.0) (mentioned b.0 ++ mentioned c.0) same)) i) names)
  step (Typed-F.Extend a all) = let rest = of_items (map (with_term mentioned) (map (with_term tree) all)) in by_parts (Typed-F.Extend a.0 (map (with_term tree) all)) (λ same i names. mean_extend (a.1 (front (mentioned a.0) rest same) i) (items_same all (behind (mentioned a.0) rest same) i) names)
  step (Typed-F.Summarize a groups.Whole all) = let rest = of_summaries (map summary_mentions (map summary_trees all)) in by_parts (Typed-F.Summarize a.0 groups.Whole (map summary_trees all)) (λ same i names. mean_summarize (a.1 (front (mentioned a.0) rest same) i) groups.Whole (summaries_same all (behind (mentioned a.0) rest same) i) names)
  step (Typed-F.Summarize a (groups.Per b) all) = let rest = of_summaries (map summary_mentions (map summary_trees all)) in by_parts (Typed-F.Summarize a.0 (groups.Per b.0) (map summary_trees all)) (λ same i names. mean_summarize (a.1 (front (mentioned a.0) (mentioned b.0 ++ rest) same) i) (groups.Per (b.1 (front (mentioned b.0) rest (behind (mentioned a.0) (mentioned b.0 ++ rest) same)) i)) (summaries_same all (behind (mentioned b.0) rest (behind (mentioned a.0) (mentioned b.0 ++ rest) same)) i) names)
  step (Typed-F.Summarize a (groups.By xs) all) = let rest = of_summaries (map summary_mentions (map summary_trees all)) in by_parts (Typed-F.Summarize a.0 (groups.By xs) (map summary_trees all)) (λ same i names. mean_summarize (a.1 (front (mentioned a.0) rest same) i) (groups.By xs) (summaries_same all (behind (mentioned a.0) rest same) i) names)
  step (Typed-F.With all a) = let first = of_named (map (with_value mentioned) (map (with_value tree) all)) in by_parts (Typed-F.With (map (with_value tree) all) a.0) (λ same i names. mean_with (named_same all (front first (mentioned a.0) same) i) (a.1 (behind first (mentioned a.0) same) i) names)

  pub agree : (u : Typed) → Agree (mentioned u) → mean r p u ≡ mean s q u
  agree = ind-Typed Same (λ x y is. subst (λ z. Same (roll-Typed z)) is (step y))

-- with one selection it goes by the relvars
pub named_agree : (r s : Relvars) (selection : Selection) (u : Typed) → ((n : ℕ) → Contains (relvars_in (mentioned u)) n → r n ≡ s n) → mean r selection u ≡ mean s selection u
named_agree r s selection u same = agree r s selection selection u (same, λ n h. refl)
