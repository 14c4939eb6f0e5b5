-- The relvars and possreps that typed expressions name are defined, those in the expression of a virtual relvar before
-- it, and so are those in the CONSTRAINT of a possrep.
use Rattle.std.proofs.Common.{◌≡◌, ℕ, ℤ, zero, suc, ◌<◌, ◌+◌, ◌++◌, Bool, true, false, List, [], ◌∷◌, map, length, Option, Some, None, if◌then◌else◌, ⊎_elim, refl, ap, sym, subst, arith, rules}
use Rattle.std.specs.Prelude.{slice_get}
use Rattle.std.specs.FinMap as by_name
use Rattle.std.specs.List.{Contains}
use Rattle.std.proofs.lemmas.List.Elements.{Contains-append_cases}
use Rattle.td_values.specs.Data.{Ty}
use Rattle.td_values.specs.Headings.{Header}
use Rattle.td_values.specs.declared.TypeKind.{TypeKind}
use Rattle.td_tuples.specs.declared.items.Item.{Item}
use Rattle.td_tuples.specs.declared.items.Summary as typed_summary
use Rattle.td_graph.proofs.Walks.{the_one}
use Rattle.td_syntax.specs.declared.script.Definition.{Definition}
use Rattle.td_syntax.specs.declared.tree.Aggregate.{Aggregate}
use Rattle.td_syntax.specs.declared.tree.Aggregate.TheVariants as aggregate
use Rattle.td_syntax.specs.declared.tree.Expr.{Expr}
use Rattle.td_syntax.specs.declared.tree.Groups.{Groups}
use Rattle.td_syntax.specs.declared.tree.Named.{Named}
use Rattle.td_syntax.specs.declared.tree.Nesting.{Nesting}
use Rattle.td_syntax.specs.declared.tree.SummaryTerm.{SummaryTerm}
use Rattle.td_schema.specs.declared.scope.Meant.TheVariants.{Local as local, Relvar as relvar}
use Rattle.td_schema.specs.Kinds.{Name}
use Rattle.td_schema.specs.Lists.{renaming_pair}
use Rattle.td_schema.specs.Schemas.{SchemaData, first_from, has_possrep, is_named, possrep_named, relvar_named, same_text}
use Rattle.td_schema.specs.Scopes.{Scope, nothing, within_tuple, with_name, with_names, relvars_of, as_relvar, or_outer}
use Rattle.td_schema.specs.Written.{kind_columns}
use Rattle.td_schema.specs.declared.schema.Representation.{Representation}
use Rattle.td_typed_trees.specs.Mentions.{Mentions, mentioned, relvars_in, possreps_in}
use Rattle.td_typed_trees.specs.ForProofs.Mentioned.{list_mentioned, items_mentioned, named_mentioned, summary_mentioned, summaries_mentioned, groups_mentioned}
use Rattle.td_typed_trees.specs.declared.mentions.Mention.TheVariants as mention
use Rattle.td_typed_trees.specs.declared.tree.TypedGroups.{TypedGroups}
use Rattle.td_typed_trees.specs.declared.tree.Typed.{Typed, the_lemmas}
use Rattle.td_typed_trees.specs.declared.tree.Typed.TheVariants as t
use Rattle.td_typed_trees.specs.declared.tree.Typing.{Typing}
use Rattle.td_typed_trees.proofs.Forms.{of_select, of_relation, of_relvar, of_unary, of_where, of_choice, of_binary, of_tuple, of_extend, of_with, of_aggregate, of_summarize}
use Rattle.td_typing.specs.Trees.{trees, summary_of}
use Rattle.td_typing.specs.Types as types
use Rattle.td_typing.specs.Types.{Types, TypesEach, TypesItems, TypesInTurn, TypesGroups, TypesSummaries}
use Rattle.td_headings.specs.Catalogues.{CatalogueData}
use Rattle.td_headings.specs.Definitions.{Defines, type_, base, virtual, constraint, Defined, nothing_yet, next_definition, names_of_relvars, TypesLimit, no_limit, limit}
use Rattle.td_headings.specs.Expressions.{IsTree}
use Rattle.td_headings.specs.Reached.{named_relvars, named_possreps, possreps_within}
use Rattle.td_headings.specs.declared.defined.Origin.{Origin}
use Rattle.td_headings.specs.declared.defined.Origin.TheVariants as origin
use Rattle.td_headings.proofs.Placed.{front_or_last}
use Rattle.td_headings.proofs.WellTyped.{all_typed}
use Rattle.td_eval.proofs.Named.{relvars_append, possreps_append}

-- ---- what the other forms mention
of_integer : (n : ℤ) → mentioned (t.Integer n) ≡ []
of_integer n = search (rules, the_lemmas)

of_text : (x : Name) → mentioned (t.Text x) ≡ []
of_text x = search (rules, the_lemmas)

of_truth : (b : Bool) → mentioned (t.Truth b) ≡ []
of_truth b = search (rules, the_lemmas)

of_local : (x : Name) → mentioned (t.Local x) ≡ []
of_local x = search (rules, the_lemmas)

of_component : (n : ℕ) (a : Typed) → mentioned (t.Component n a) ≡ mentioned a
of_component n a = search (rules, the_lemmas)

of_from : (x : Name) (a : Typed) → mentioned (t.From x a) ≡ mentioned a
of_from x a = search (rules, the_lemmas)

of_project : (a : Typed) (xs : List Name) → mentioned (t.Project a xs) ≡ mentioned a
of_project a xs = search (rules, the_lemmas)

of_rename : (a : Typed) (xs : List (Name × Name)) → mentioned (t.Rename a xs) ≡ mentioned a
of_rename a xs = search (rules, the_lemmas)

of_nest : (o : Nesting) (a : Typed) (xs : List Name) (c : Name) → mentioned (t.Nest o a xs c) ≡ mentioned a
of_nest o a xs c = search (rules, the_lemmas)

of_unnest : (o : Nesting) (a : Typed) (c : Name) → mentioned (t.Unnest o a c) ≡ mentioned a
of_unnest o a c = search (rules, the_lemmas)

-- ---- names that stand for relvars and possreps stand for those that are defined
abbrev Below : ℕ → Scope → Type 0
Below n s = (x : Name) (m : ℕ) (h : Header) → s x ≡ Some (relvar m h) → m < n

within_below : (n : ℕ) (h : Header) (s : Scope) → Below n s → Below n (within_tuple h s)
within_below n h s below x m k is = by (by_name.get h x) is
  where
    by : (o : Option Ty) → or_outer o (s x) ≡ Some (relvar m k) → m < n
    by None e = below x m k e
    by (Some ty) e = cc

given_below : (n : ℕ) (y : Name) (j : TypeKind) (s : Scope) → Below n s → Below n (with_name y j s)
given_below n y j s below x m k is = by (same_text y x) is
  where
    by : (b : Bool) → (if b then Some (local j) else s x) ≡ Some (relvar m k) → m < n
    by true e = cc
    by false e = below x m k e

all_given_below : (n : ℕ) (ns : List (Named TypeKind)) (s : Scope) → Below n s → Below n (with_names ns s)
all_given_below n [] s below = below
all_given_below n (x ∷ xs) s below = all_given_below n xs (with_name x.name x.value s) (given_below n x.name x.value s below)

abbrev place_in : {A : Type 0} → ℕ × A → Option (ℕ × A) → ℕ
place_in d None = d.0
place_in d (Some p) = p.0

one_below : {A : Type 0} (n l : ℕ) (x : A) (r : ℕ × A) (o : Option (ℕ × A)) (b : Bool) → (o ≡ Some r → r.0 < n + 1 + l) → (if b then Some (n, x) else o) ≡ Some r → r.0 < n + suc l
one_below n l x r o true rest is = let same : n ≡ r.0 = ap (place_in r) is in omega (arith, same)
one_below n l x r o false rest is = let lt = rest is in omega (arith, lt)

first_below : {A : Type 0} (n : ℕ) (test : A → Bool) (xs : List A) (r : ℕ × A) → first_from n test xs ≡ Some r → r.0 < n + length xs
first_below n test [] r is = cc
first_below n test (x ∷ xs) r is = one_below n (length xs) x r (first_from (n + 1) test xs) (test x) (first_below (n + 1) test xs r) is

relvars_below : (cat : SchemaData) → Below (length cat.relvars) (relvars_of cat)
relvars_below cat x m h is = by (relvar_named cat x) refl is
  where
    by : (o : Option (ℕ × Named Header)) → relvar_named cat x ≡ o → as_relvar o ≡ Some (relvar m h) → m < length cat.relvars
    by None p e = cc
    by (Some r) p e = let same : r.0 ≡ m = cc in let lt = first_below 0 (is_named x) cat.relvars r p in omega (arith, same, lt)

nothing_below : (n : ℕ) → Below n nothing
nothing_below n x m h is = cc

possrep_below : (cat : SchemaData) (x : Name) (n : ℕ) (r : Representation) → possrep_named cat x ≡ Some (n, r) → n < length cat.possreps
possrep_below cat x n r is = let lt = first_below 0 (has_possrep x) cat.possreps (n, r) is in omega (arith, lt)

-- ---- so what is typed names relvars and possreps that are defined
module _ (cat : SchemaData) where
  abbrev Inside : Mentions → Type 0
  Inside ms = ((w : ℕ) → Contains (relvars_in ms) w → w < length cat.relvars) × ((w : ℕ) → Contains (possreps_in ms) w → w < length cat.possreps)

  none : Inside []
  none = (λ w h. absurd (omega (arith, h.1)), λ w h. absurd (omega (arith, h.1)))

  one : (n : ℕ) → n < length cat.relvars → Inside (mention.Relvar n ∷ [])
  one n lt = (λ w h. subst (λ m. m < length cat.relvars) (sym (the_one n w h)) lt, λ w h. absurd (omega (arith, h.1)))

  selects : (n : ℕ) (ms : Mentions) → n < length cat.possreps → Inside ms → Inside (mention.Possrep n ∷ ms)
  selects n ms lt rest = (
    rest.0,
    (λ w h. ⊎_elim (λ here. subst (λ m. m < length cat.possreps) (sym (the_one n w here)) lt) (rest.1 w) (Contains-append_cases (n ∷ []) (possreps_in ms) w h)),
  )

  both : (ms ns : Mentions) → Inside ms → Inside ns → Inside (ms ++ ns)
  both ms ns p q = (
    (λ w h. ⊎_elim (p.0 w) (q.0 w) (Contains-append_cases (relvars_in ms) (relvars_in ns) w (subst (λ l. Contains l w) (relvars_append ms ns) h))),
    (λ w h. ⊎_elim (p.1 w) (q.1 w) (Contains-append_cases (possreps_in ms) (possreps_in ns) w (subst (λ l. Contains l w) (possreps_append ms ns) h))),
  )

  seen : (ms ns : Mentions) → ms ≡ ns → Inside ns → Inside ms
  seen ms ns is = subst Inside (sym is)

  summary_inside : (o : Aggregate) (u : Typed) → Inside (mentioned u) → Inside (summary_mentioned (summary_of o u))
  summary_inside aggregate.Sum u h = h
  summary_inside aggregate.Max u h = h
  summary_inside aggregate.Min u h = h
  summary_inside aggregate.And u h = h
  summary_inside aggregate.Or u h = h

  abbrev Sees : Scope → Type 0
  Sees s = Below (length cat.relvars) s

  mutual
    inside : (s : Scope) {a : Expr} {u : Typed} {k : TypeKind} → Sees s → Types cat s a u k → Inside (mentioned u)
    inside s sees (types.integer {n}) = seen _ _ (of_integer n) none
    inside s sees (types.text {x}) = seen _ _ (of_text x) none
    inside s sees (types.truth {b}) = seen _ _ (of_truth b) none
    inside s sees types.table_dee = seen _ _ (of_relation by_name.empty (t.Tuple [] ∷ [])) (both (mentioned (t.Tuple [])) [] (seen _ _ (of_tuple []) none) none)
    inside s sees types.table_dum = seen _ _ (of_relation by_name.empty []) none
    inside s sees (types.local_name {x} is) = seen _ _ (of_local x) none
    inside s sees (types.relvar_name {x} {n} {h} is) = seen _ _ (of_relvar n) (one n (sees x n h is))
    inside s sees (types.selector {x} {ys} {n} {r} plain is all fit) = seen _ _ (of_select n (trees ys)) (selects n (list_mentioned (trees ys)) (possrep_below cat x n r is) (inside_each s sees all))
    inside s sees (types.component {u} {i} the a is has) = seen _ _ (of_component i u) (inside s sees a)
    inside s sees (types.tuple {is} distinct all) = seen _ _ (of_tuple is) (inside_items s sees all)
    inside s sees (types.tuples {ys} {h} all fit) = seen _ _ (of_relation h (trees ys)) (inside_each s sees all)
    inside s sees (types.headed {ys} {h} is all fit) = seen _ _ (of_relation h (trees ys)) (inside_each s sees all)
    inside s sees (types.unary {o} {u} a is) = seen _ _ (of_unary o u) (inside s sees a)
    inside s sees (types.binary {o} {u} {v} a b is) = seen _ _ (of_binary o u v) (both (mentioned u) (mentioned v) (inside s sees a) (inside s sees b))
    inside s sees (types.from {x} {u} a is) = seen _ _ (of_from x u) (inside s sees a)
    inside s sees (types.project {u} {ns} a has are) = seen _ _ (of_project u ns) (inside s sees a)
    inside s sees (types.where_ {u} {v} {h} a b) = seen _ _ (of_where u v) (both (mentioned u) (mentioned v) (inside s sees a) (inside (within_tuple h s) (within_below _ h s sees) b))
    inside s sees (types.rename {xs} {u} a is) = seen _ _ (of_rename u (map renaming_pair xs)) (inside s sees a)
    inside s sees (types.nest {o} {c} {u} {ns} a are is) = seen _ _ (of_nest o u ns c) (inside s sees a)
    inside s sees (types.unnest {o} {c} {u} a is) = seen _ _ (of_unnest o u c) (inside s sees a)
    inside s sees (types.aggregate {o} {u} {v} {h} a b may) = seen _ _ (of_aggregate u (summary_of o v)) (both (mentioned u) (summary_mentioned (summary_of o v)) (inside s sees a) (summary_inside o v (inside (within_tuple h s) (within_below _ h s sees) b)))
    inside s sees (types.aggregate_lone {o} {u} {n} a is may) = seen _ _ (of_aggregate u (summary_of o (t.Local n))) (both (mentioned u) (summary_mentioned (summary_of o (t.Local n))) (inside s sees a) (summary_inside o (t.Local n) (seen _ _ (of_local n) none)))
    inside s sees (types.choice {u} {v} {w} a b d) = seen _ _ (of_choice u v w) (both (mentioned u) (mentioned v ++ mentioned w) (inside s sees a) (both (mentioned v) (mentioned w) (inside s sees b) (inside s sees d)))
    inside s sees (types.extend {u} {is} {h} a may all) = seen _ _ (of_extend u is) (both (mentioned u) (items_mentioned is) (inside s sees a) (inside_items (within_tuple h s) (within_below _ h s sees) all))
    inside s sees (types.summarize {u} {gs} {is} {h} a groups may all) = seen _ _ (of_summarize u gs is) (both (mentioned u) (groups_mentioned gs ++ summaries_mentioned is) (inside s sees a) (both (groups_mentioned gs) (summaries_mentioned is) (inside_groups s sees groups) (inside_summaries (within_tuple h s) (within_below _ h s sees) all)))
    inside s sees (types.with_ {us} {ks} {u} all b) = seen _ _ (of_with us u) (both (named_mentioned us) (mentioned u) (inside_in_turn s sees all) (inside (with_names ks s) (all_given_below _ ks s sees) b))

    inside_groups : (s : Scope) {h k : Header} {g : Groups Expr} {gs : TypedGroups Typed} → Sees s → TypesGroups cat s h g gs k → Inside (groups_mentioned gs)
    inside_groups s sees types.whole = none
    inside_groups s sees (types.per a is) = inside s sees a
    inside_groups s sees (types.by are) = none

    inside_each : (s : Scope) {xs : List Expr} {ys : List Typing} → Sees s → TypesEach cat s xs ys → Inside (list_mentioned (trees ys))
    inside_each s sees types.none = none
    inside_each s sees (types.next {u} {ys} a rest) = both (mentioned u) (list_mentioned (trees ys)) (inside s sees a) (inside_each s sees rest)

    inside_items : (s : Scope) {xs : List (Named Expr)} {is : List (Item Typed)} → Sees s → TypesItems cat s xs is → Inside (items_mentioned is)
    inside_items s sees types.no_items = none
    inside_items s sees (types.next_item {u} {is} a rest) = both (mentioned u) (items_mentioned is) (inside s sees a) (inside_items s sees rest)

    inside_summaries : (s : Scope) {xs : List (Named (SummaryTerm Expr))} {is : List (Item (typed_summary.Summary Typed))} → Sees s → TypesSummaries cat s xs is → Inside (summaries_mentioned is)
    inside_summaries s sees types.no_summaries = none
    inside_summaries s sees (types.count rest) = inside_summaries s sees rest
    inside_summaries s sees (types.of_terms {o} {u} {is} a may rest) = both (summary_mentioned (summary_of o u)) (summaries_mentioned is) (summary_inside o u (inside s sees a)) (inside_summaries s sees rest)

    inside_in_turn : (s : Scope) {ks all : List (Named TypeKind)} {xs : List (Named Expr)} {us : List (Named Typed)} → Sees s → TypesInTurn cat s ks xs us all → Inside (named_mentioned us)
    inside_in_turn s sees types.last = none
    inside_in_turn s sees (types.further {ks} {u} {us} a rest) = both (mentioned u) (named_mentioned us) (inside (with_names ks s) (all_given_below _ ks s sees) a) (inside_in_turn s sees rest)

module _ (c : CatalogueData) (defined : Defined c) (h : Header) (u : Typed) (k : TypeKind) (tree : IsTree c h u k) where
  tree_inside : Inside c.schema (mentioned u)
  tree_inside = inside c.schema (within_tuple h (relvars_of c.schema)) (within_below (length c.schema.relvars) h (relvars_of c.schema) (relvars_below c.schema)) tree.types

  pub named_defined : (w : ℕ) → Contains (named_relvars u) w → w < length c.origins
  named_defined w named =
      let lt = tree_inside.0 w named in
      let each = (all_typed c defined).origin_each in
      omega (arith, lt, each)

  pub selected_defined : (w : ℕ) → Contains (named_possreps u) w → w < length c.limits
  selected_defined w named =
      let lt = tree_inside.1 w named in
      let each = (all_typed c defined).limit_each in
      omega (arith, lt, each)

-- ---- names that are defined earlier
pub some_same : {A : Type 0} (a b : A) → Some a ≡ Some b → a ≡ b
some_same a b h = cc

abbrev Earlier : CatalogueData → Type 0
Earlier c = (n : ℕ) (u : Typed) → slice_get c.origins n ≡ Some (origin.Virtual u) → (w : ℕ) → Contains (named_relvars u) w → w < n

abbrev tree_in : Typed → Origin → Typed
tree_in d (origin.Virtual u) = u
tree_in d (origin.Base ks u) = d

defines_earlier : (c : CatalogueData) (x : Definition) (d : CatalogueData) → Defined c → Earlier c → Defines c x d → Earlier d
defines_earlier c x d defined before (type_ new_type new_possrep plain are is) n u h w named = before n u h w named
defines_earlier c x d defined before (constraint new is) n u h w named = before n u h w named
defines_earlier c x d defined before (base {u = v} {ks} new is are) n u h w named = front_or_last c.origins (origin.Base ks v) n (origin.Virtual u) h (λ old. before n u old w named) (λ at is2. cc)
defines_earlier c x d defined before (virtual {u = v} new is) n u h w named =
    front_or_last c.origins (origin.Virtual v) n (origin.Virtual u) h
    (λ old. before n u old w named)
    (λ at same.
    let each = (all_typed c defined).origin_each in
    let lt = (inside c.schema (names_of_relvars c) (relvars_below c.schema) is).0 w (subst (λ (z : Typed). Contains (named_relvars z) w) (sym (ap (tree_in u) same)) named) in
    omega (arith, at, each, lt))

pub names_earlier : (c : CatalogueData) → Defined c → Earlier c
names_earlier c nothing_yet n u h w named = cc
names_earlier c (next_definition {c = old} {x} before is) n u h w named = defines_earlier old x c before (names_earlier old before) is n u h w named

-- ---- and the CONSTRAINT of a possrep selects those before it
limit_inside : (c : CatalogueData) (ks : List (Named TypeKind)) (a : Option Expr) (u : Option Typed) → TypesLimit c ks a u → (w : ℕ) → Contains (possreps_within u) w → w < length c.schema.possreps
limit_inside c ks a u no_limit w h = absurd (omega (arith, h.1))
limit_inside c ks a u (limit d) w h = (inside c.schema (within_tuple (kind_columns ks) nothing) (within_below (length c.schema.relvars) (kind_columns ks) nothing (nothing_below (length c.schema.relvars))) d).1 w h

abbrev SelectsEarlier : CatalogueData → Type 0
SelectsEarlier c = (n : ℕ) (u : Option Typed) → slice_get c.limits n ≡ Some u → (w : ℕ) → Contains (possreps_within u) w → w < n

defines_selecting : (c : CatalogueData) (x : Definition) (d : CatalogueData) → Defined c → SelectsEarlier c → Defines c x d → SelectsEarlier d
defines_selecting c x d defined before (type_ {a} {ks} {u = v} new_type new_possrep plain are is) n u h w named =
    front_or_last c.limits v n u h
    (λ old. before n u old w named)
    (λ at same.
    let each = (all_typed c defined).limit_each in
    let lt = limit_inside c ks a v is w (subst (λ (z : Option Typed). Contains (possreps_within z) w) (sym same) named) in
    omega (arith, at, each, lt))
defines_selecting c x d defined before (constraint new is) n u h w named = before n u h w named
defines_selecting c x d defined before (base new is are) n u h w named = before n u h w named
defines_selecting c x d defined before (virtual new is) n u h w named = before n u h w named

pub selects_earlier : (c : CatalogueData) → Defined c → SelectsEarlier c
selects_earlier c nothing_yet n u h w named = cc
selects_earlier c (next_definition {c = old} {x} before is) n u h w named = defines_selecting old x c before (selects_earlier old before) is n u h w named
