-- What is typed stays typed where more is defined.
use Rattle.std.proofs.Common.{◌≡◌, ℕ, ◌+◌, ◌++◌, Bool, true, false, List, [], ◌∷◌, map, Option, Some, None, if◌then◌else◌, refl, ap, sym, ◌∙◌, subst}
use Rattle.std.specs.FinMap as by_name
use Rattle.std.specs.Option.{is_some}
use Rattle.td_values.specs.Data.{Ty}
use Rattle.td_values.specs.Headings.{Header}
use Rattle.td_values.specs.declared.TypeKind.{TypeKind}
use Rattle.td_values.specs.declared.TypeKind.TheVariants as kind
use Rattle.td_tuples.specs.declared.items.Item.{Item}
use Rattle.td_tuples.specs.declared.items.Summary as typed_summary
use Rattle.td_syntax.specs.declared.tree.Named.{Named}
use Rattle.td_syntax.specs.declared.tree.SummaryTerm.{SummaryTerm}
use Rattle.td_syntax.specs.declared.tree.Groups.{Groups}
use Rattle.td_syntax.specs.declared.tree.Expr.{Expr}
use Rattle.td_syntax.specs.declared.tree.TypeExpr.{TypeExpr, map-TypeExpr}
use Rattle.td_syntax.specs.declared.tree.TypeExpr.TheVariants as e
use Rattle.td_syntax.specs.declared.tree.TypeExpr.TheOpen.{TypeExpr-F}
use Rattle.td_syntax.specs.declared.tree.TypeExpr.TheViews.{roll-TypeExpr}
use Rattle.td_syntax.specs.declared.tree.TypeExpr.TheFolds.{fold-roll-TypeExpr, ind-TypeExpr}
use Rattle.td_typed_trees.specs.declared.tree.TypedGroups.{TypedGroups}
use Rattle.td_typed_trees.specs.declared.tree.Typed.{Typed}
use Rattle.td_typed_trees.specs.declared.tree.Typing.{Typing}
use Rattle.td_schema.specs.declared.schema.Representation.{Representation}
use Rattle.td_schema.specs.declared.scope.Meant.{Meant}
use Rattle.td_schema.specs.declared.scope.Meant.TheVariants.{Local as local, Relvar as relvar}
use Rattle.td_schema.specs.Kinds.{Name, kind_of}
use Rattle.td_schema.specs.Results.{where_true, where_some}
use Rattle.td_schema.specs.Schemas.{SchemaData, first_with_place, first_from, is_named, has_possrep, has_type_name, possrep_named, type_named, relvar_named, same_text}
use Rattle.td_schema.specs.Scopes.{Scope, within_tuple, with_name, with_names, relvars_of, as_relvar, or_outer}
use Rattle.td_schema.specs.Written.{all_named, distinct_columns, heading_written, written, written_step}
use Rattle.td_schema.proofs.Writings.{of_tuple, of_relation}
use Rattle.td_typing.specs.ForProofs.Growth.{IsEarlier, KeepsNames}
use Rattle.td_typing.specs.Trees.{named}
use Rattle.td_typing.specs.Types as types
use Rattle.td_typing.specs.Types.{Types, TypesEach, TypesItems, TypesInTurn, TypesGroups, TypesSummaries}

module _ {A B : Type 0} where
  goes : (o : Option A) (a : A) (f : A → Option B) → o ≡ Some a → where_some o f ≡ f a
  goes o a f h = ap (λ x. where_some x f) h

  inverted : (o : Option A) (f : A → Option B) (y : B) → where_some o f ≡ Some y → (a : A) × (o ≡ Some a) × (f a ≡ Some y)
  inverted None f y h = cc
  inverted (Some a) f y h = (a, refl, h)

-- ---- names
here_or_later : {A : Type 0} (b : Bool) (n : ℕ) (x : A) (o p : Option (ℕ × A)) (r : ℕ × A) → (o ≡ Some r → p ≡ Some r) → (if b then Some (n, x) else o) ≡ Some r → (if b then Some (n, x) else p) ≡ Some r
here_or_later true n x o p r later h = h
here_or_later false n x o p r later h = later h

first_stays : {A : Type 0} (n : ℕ) (test : A → Bool) (xs ys : List A) (r : ℕ × A) → first_from n test xs ≡ Some r → first_from n test (xs ++ ys) ≡ Some r
first_stays n test [] ys r h = cc
first_stays n test (x ∷ xs) ys r h = here_or_later (test x) n x (first_from (n + 1) test xs) (first_from (n + 1) test (xs ++ ys)) r (first_stays (n + 1) test xs ys r) h

pub within_stays : (h : Header) (s w : Scope) → KeepsNames s w → KeepsNames (within_tuple h s) (within_tuple h w)
within_stays h s w keep x m is = by (by_name.get h x) is
  where
    by : (o : Option Ty) → or_outer o (s x) ≡ Some m → or_outer o (w x) ≡ Some m
    by None k = keep x m k
    by (Some ty) k = k

given_stays : (n : Name) (k : TypeKind) (s w : Scope) → KeepsNames s w → KeepsNames (with_name n k s) (with_name n k w)
given_stays n k s w keep x m is = by (same_text n x) is
  where
    by : (b : Bool) → (if b then Some (local k) else s x) ≡ Some m → (if b then Some (local k) else w x) ≡ Some m
    by true h = h
    by false h = keep x m h

all_given_stay : (ns : List (Named TypeKind)) (s w : Scope) → KeepsNames s w → KeepsNames (with_names ns s) (with_names ns w)
all_given_stay [] s w keep = keep
all_given_stay (n ∷ ns) s w keep = all_given_stay ns (with_name n.name n.value s) (with_name n.name n.value w) (given_stays n.name n.value s w keep)

-- ---- named parts, where each has one
kept : {X B : Type 0} (f g : X → Option B) → ((x : X) (k : B) → f x ≡ Some k → g x ≡ Some k) → (xs : List (Named X)) (ks : List (Named B)) → all_named f xs ≡ Some ks → all_named g xs ≡ Some ks
kept f g each [] ks h = h
kept f g each (x ∷ xs) ks h =
    let p = inverted (f x.value) (λ y. where_some (all_named f xs) (λ ys. Some (named x.name y ∷ ys))) ks h in
    let q = inverted (all_named f xs) (λ ys. Some (named x.name p.0 ∷ ys)) ks p.2 in
    goes (g x.value) p.0 (λ y. where_some (all_named g xs) (λ ys. Some (named x.name y ∷ ys))) (each x.value p.0 p.1)
    ∙ goes (all_named g xs) q.0 (λ ys. Some (named x.name p.0 ∷ ys)) (kept f g each xs q.0 q.1) ∙ q.2

-- ---- written types, by their forms
module _ (cat : SchemaData) where
  of_boolean : written cat e.Boolean ≡ Some kind.Boolean
  of_boolean = ap (written cat) (sym e.rolls-Boolean) ∙ fold-roll-TypeExpr (Option TypeKind) (written_step cat) TypeExpr-F.Boolean

  of_integer : written cat e.Integer ≡ Some kind.Integer
  of_integer = ap (written cat) (sym e.rolls-Integer) ∙ fold-roll-TypeExpr (Option TypeKind) (written_step cat) TypeExpr-F.Integer

  of_char : written cat e.Char ≡ Some kind.Char
  of_char = ap (written cat) (sym e.rolls-Char) ∙ fold-roll-TypeExpr (Option TypeKind) (written_step cat) TypeExpr-F.Char

  of_user : (n : Name) → written cat (e.User n) ≡ where_true (is_some (type_named cat n)) (kind.User n)
  of_user n = ap (written cat) (sym (e.rolls-User n)) ∙ fold-roll-TypeExpr (Option TypeKind) (written_step cat) (TypeExpr-F.User n)

module _ (c d : SchemaData) (f : IsEarlier c d) where
  possrep_stays : (x : Name) (r : ℕ × Representation) → possrep_named c x ≡ Some r → possrep_named d x ≡ Some r
  possrep_stays x r h = ap (first_with_place (has_possrep x)) f.later_possreps ∙ first_stays 0 (has_possrep x) c.possreps f.possreps r h

  type_stays : (x : Name) (r : ℕ × Representation) → type_named c x ≡ Some r → type_named d x ≡ Some r
  type_stays x r h = ap (first_with_place (has_type_name x)) f.later_possreps ∙ first_stays 0 (has_type_name x) c.possreps f.possreps r h

  relvar_stays : (x : Name) (r : ℕ × Named Header) → relvar_named c x ≡ Some r → relvar_named d x ≡ Some r
  relvar_stays x r h = ap (first_with_place (is_named x)) f.later_relvars ∙ first_stays 0 (is_named x) c.relvars f.relvars r h

  pub relvars_stay : KeepsNames (relvars_of c) (relvars_of d)
  relvars_stay x m h = by (relvar_named c x) refl h
    where
      by : (o : Option (ℕ × Named Header)) → relvar_named c x ≡ o → as_relvar o ≡ Some m → as_relvar (relvar_named d x) ≡ Some m
      by None is k = cc
      by (Some r) is k = ap as_relvar (relvar_stays x r is) ∙ k

  -- ---- written types
  abbrev Stays : TypeExpr → Type 0
  Stays a = (k : TypeKind) → written c a ≡ Some k → written d a ≡ Some k

  abbrev Known : Type 0
  Known = (a : TypeExpr) × Stays a

  abbrev strip : Named Known → Named TypeExpr
  strip x = named x.name x.value.0

  same : (a : TypeExpr) (k : TypeKind) → written c a ≡ Some k → written d a ≡ Some k → Stays a
  same a k p q j h = q ∙ sym p ∙ h

  by_user : (n : Name) → Stays (e.User n)
  by_user n k h = of_user d n ∙ by (type_named c n) refl (sym (of_user c n) ∙ h)
    where
      by : (o : Option (ℕ × Representation)) → type_named c n ≡ o → where_true (is_some o) (kind.User n) ≡ Some k → where_true (is_some (type_named d n)) (kind.User n) ≡ Some k
      by None is g = cc
      by (Some r) is g = ap (λ o. where_true (is_some o) (kind.User n)) (type_stays n r is) ∙ g

  stripped : (cat : SchemaData) (xs : List (Named Known)) → all_named (written cat) (map strip xs) ≡ all_named (λ (x : Known). written cat x.0) xs
  stripped cat [] = refl
  stripped cat (x ∷ xs) = ap (λ r. where_some (written cat x.value.0) (λ y. where_some r (λ ys. Some (named x.name y ∷ ys)))) (stripped cat xs)

  known_heading : (xs : List (Named Known)) (h : Header) → heading_written c (map strip xs) ≡ Some h → heading_written d (map strip xs) ≡ Some h
  unfolding heading_written
  known_heading xs h is =
      let p = inverted (all_named (written c) (map strip xs)) distinct_columns h is in
      goes (all_named (written d) (map strip xs)) p.0 distinct_columns
      (stripped d xs ∙ kept (λ (x : Known). written c x.0) (λ (x : Known). written d x.0) (λ x. x.1) xs p.0 (sym (stripped c xs) ∙ p.1)) ∙ p.2

  by_tuple : (xs : List (Named Known)) → Stays (e.Tuple (map strip xs))
  by_tuple xs k h =
      let p = inverted (heading_written c (map strip xs)) (λ g. Some (kind.Tuple g)) k (sym (of_tuple c (map strip xs)) ∙ h) in
      of_tuple d (map strip xs) ∙ goes (heading_written d (map strip xs)) p.0 (λ g. Some (kind.Tuple g)) (known_heading xs p.0 p.1) ∙ p.2

  by_relation : (xs : List (Named Known)) → Stays (e.Relation (map strip xs))
  by_relation xs k h =
      let p = inverted (heading_written c (map strip xs)) (λ g. Some (kind.Relation g)) k (sym (of_relation c (map strip xs)) ∙ h) in
      of_relation d (map strip xs) ∙ goes (heading_written d (map strip xs)) p.0 (λ g. Some (kind.Relation g)) (known_heading xs p.0 p.1) ∙ p.2

  step : (y : TypeExpr-F Known) → Stays (roll-TypeExpr (map-TypeExpr Known TypeExpr (λ a. a.0) y))
  step TypeExpr-F.Boolean = subst Stays (sym e.rolls-Boolean) (same e.Boolean kind.Boolean (of_boolean c) (of_boolean d))
  step TypeExpr-F.Integer = subst Stays (sym e.rolls-Integer) (same e.Integer kind.Integer (of_integer c) (of_integer d))
  step TypeExpr-F.Char = subst Stays (sym e.rolls-Char) (same e.Char kind.Char (of_char c) (of_char d))
  step (TypeExpr-F.User n) = subst Stays (sym (e.rolls-User n)) (by_user n)
  step (TypeExpr-F.Tuple xs) = subst Stays (sym (e.rolls-Tuple (map strip xs))) (by_tuple xs)
  step (TypeExpr-F.Relation xs) = subst Stays (sym (e.rolls-Relation (map strip xs))) (by_relation xs)

  written_stays : (a : TypeExpr) → Stays a
  written_stays = ind-TypeExpr Stays (λ x y is. subst (λ z. Stays (roll-TypeExpr z)) is (step y))

  heading_stays : (fs : List (Named TypeExpr)) (h : Header) → heading_written c fs ≡ Some h → heading_written d fs ≡ Some h
  unfolding heading_written
  heading_stays fs h is =
      let p = inverted (all_named (written c) fs) distinct_columns h is in
      goes (all_named (written d) fs) p.0 distinct_columns (kept (written c) (written d) written_stays fs p.0 p.1) ∙ p.2

  -- ---- expressions
  mutual
    pub stays : (s w : Scope) {a : Expr} {u : Typed} {k : TypeKind} → KeepsNames s w → Types c s a u k → Types d w a u k
    stays s w keep types.integer = types.integer
    stays s w keep types.text = types.text
    stays s w keep types.truth = types.truth
    stays s w keep types.table_dee = types.table_dee
    stays s w keep types.table_dum = types.table_dum
    stays s w keep (types.local_name {x} {k} is) = types.local_name (keep x (local k) is)
    stays s w keep (types.relvar_name {x} {n} {h} is) = types.relvar_name (keep x (relvar n h) is)
    stays s w keep (types.selector {x} {n} {r} plain is all one) = types.selector plain (possrep_stays x (n, r) is) (stay_each s w keep all) one
    stays s w keep (types.component {m} {n} {r} the a is has) = types.component the (stays s w keep a) (type_stays m (n, r) is) has
    stays s w keep (types.tuple distinct all) = types.tuple distinct (stay_items s w keep all)
    stays s w keep (types.tuples all one) = types.tuples (stay_each s w keep all) one
    stays s w keep (types.headed {fs} {h} is all one) = types.headed (heading_stays fs h is) (stay_each s w keep all) one
    stays s w keep (types.unary a is) = types.unary (stays s w keep a) is
    stays s w keep (types.binary a b is) = types.binary (stays s w keep a) (stays s w keep b) is
    stays s w keep (types.from a is) = types.from (stays s w keep a) is
    stays s w keep (types.project a has are) = types.project (stays s w keep a) has are
    stays s w keep (types.where_ {h} a b) = types.where_ (stays s w keep a) (stays (within_tuple h s) (within_tuple h w) (within_stays h s w keep) b)
    stays s w keep (types.rename a is) = types.rename (stays s w keep a) is
    stays s w keep (types.nest a are is) = types.nest (stays s w keep a) are is
    stays s w keep (types.unnest a is) = types.unnest (stays s w keep a) is
    stays s w keep (types.aggregate {h} a b may) = types.aggregate (stays s w keep a) (stays (within_tuple h s) (within_tuple h w) (within_stays h s w keep) b) may
    stays s w keep (types.aggregate_lone a one may) = types.aggregate_lone (stays s w keep a) one may
    stays s w keep (types.choice a b v) = types.choice (stays s w keep a) (stays s w keep b) (stays s w keep v)
    stays s w keep (types.extend {h} a may all) = types.extend (stays s w keep a) may (stay_items (within_tuple h s) (within_tuple h w) (within_stays h s w keep) all)
    stays s w keep (types.summarize {h} a groups may all) = types.summarize (stays s w keep a) (stay_groups s w keep groups) may (stay_summaries (within_tuple h s) (within_tuple h w) (within_stays h s w keep) all)
    stays s w keep (types.with_ {ks} all b) = types.with_ (stay_in_turn s w keep all) (stays (with_names ks s) (with_names ks w) (all_given_stay ks s w keep) b)

    stay_groups : (s w : Scope) {h k : Header} {g : Groups Expr} {gs : TypedGroups Typed} → KeepsNames s w → TypesGroups c s h g gs k → TypesGroups d w h g gs k
    stay_groups s w keep types.whole = types.whole
    stay_groups s w keep (types.per a part) = types.per (stays s w keep a) part
    stay_groups s w keep (types.by are) = types.by are

    stay_each : (s w : Scope) {xs : List Expr} {ys : List Typing} → KeepsNames s w → TypesEach c s xs ys → TypesEach d w xs ys
    stay_each s w keep types.none = types.none
    stay_each s w keep (types.next a rest) = types.next (stays s w keep a) (stay_each s w keep rest)

    stay_items : (s w : Scope) {xs : List (Named Expr)} {is : List (Item Typed)} → KeepsNames s w → TypesItems c s xs is → TypesItems d w xs is
    stay_items s w keep types.no_items = types.no_items
    stay_items s w keep (types.next_item a rest) = types.next_item (stays s w keep a) (stay_items s w keep rest)

    stay_summaries : (s w : Scope) {xs : List (Named (SummaryTerm Expr))} {is : List (Item (typed_summary.Summary Typed))} → KeepsNames s w → TypesSummaries c s xs is → TypesSummaries d w xs is
    stay_summaries s w keep types.no_summaries = types.no_summaries
    stay_summaries s w keep (types.count rest) = types.count (stay_summaries s w keep rest)
    stay_summaries s w keep (types.of_terms a may rest) = types.of_terms (stays s w keep a) may (stay_summaries s w keep rest)

    stay_in_turn : (s w : Scope) {ks all : List (Named TypeKind)} {xs : List (Named Expr)} {us : List (Named Typed)} → KeepsNames s w → TypesInTurn c s ks xs us all → TypesInTurn d w ks xs us all
    stay_in_turn s w keep types.last = types.last
    stay_in_turn s w keep (types.further {ks} a rest) = types.further (stays (with_names ks s) (with_names ks w) (all_given_stay ks s w keep) a) (stay_in_turn s w keep rest)
