-- Kinds of types that are one, and what a kind is by its test.
use Rattle.std.proofs.Common.{◌≡◌, ◌&&◌, Bool, true, false, IsTrue, List, [], ◌∷◌, map, Some, refl, ap, sym, ◌∙◌}
use Rattle.std.specs.List.{list_all, All}
use Rattle.std.proofs.lemmas.List.Sums.{AllPass-from_list_all, list_all-from_AllPass}
use Rattle.td_values.specs.Headings.{Header}
use Rattle.td_values.specs.View.{ty_of}
use Rattle.td_values.specs.declared.TypeKind.{TypeKind}
use Rattle.td_values.specs.declared.TypeKind.TheVariants as kind
use Rattle.std.proofs.lemmas.List.Folds.{list_all-map}
use Rattle.td_values.proofs.Walks.{equal_types_tie}
use Rattle.td_syntax.specs.declared.tree.Named.{Named}
use Rattle.td_typed_trees.specs.declared.tree.Typing.{Typing}
use Rattle.td_schema.specs.Kinds.{Name, kind_of, same_kind, is_boolean, relation_heading, user_name}
use Rattle.td_schema.proofs.KindLemmas.{kind_back}
use Rattle.td_typing.specs.Trees.{kinds}
use Rattle.td_typing.specs.ForProofs.Infer.{fit}

pub some_same : {A : Type 0} (a b : A) → Some a ≡ Some b → a ≡ b
some_same a b h = cc

is_true : (b : Bool) → IsTrue b → b ≡ true
is_true true h = refl
is_true false h = cc

was_true : (b : Bool) → b ≡ true → IsTrue b
was_true true h = refl
was_true false h = cc

pub same_itself : (k : TypeKind) → same_kind k k ≡ true
same_itself k = is_true _ ((equal_types_tie (ty_of k) (ty_of k) _ _ refl refl).1 refl)

pub same : (j k : TypeKind) → same_kind j k ≡ true → j ≡ k
same j k h = sym (kind_back j) ∙ ap kind_of ((equal_types_tie (ty_of j) (ty_of k) _ _ refl refl).0 (was_true _ h)) ∙ kind_back k

-- ---- what a kind is

pub boolean : (k : TypeKind) → is_boolean k ≡ true → k ≡ kind.Boolean
boolean kind.Boolean h = refl
boolean kind.Integer h = cc
boolean kind.Char h = cc
boolean (kind.User n) h = cc
boolean (kind.Tuple g) h = cc
boolean (kind.Relation g) h = cc

pub relation : (k : TypeKind) (h : Header) → relation_heading k ≡ Some h → k ≡ kind.Relation h
relation kind.Boolean g h = cc
relation kind.Integer g h = cc
relation kind.Char g h = cc
relation (kind.User n) g h = cc
relation (kind.Tuple k) g h = cc
relation (kind.Relation k) g h = ap kind.Relation (some_same k g h)

pub user : (k : TypeKind) (n : Name) → user_name k ≡ Some n → k ≡ kind.User n
user kind.Boolean g h = cc
user kind.Integer g h = cc
user kind.Char g h = cc
user (kind.User m) n h = ap kind.User (some_same m n h)
user (kind.Tuple k) g h = cc
user (kind.Relation k) g h = cc

-- ---- lists

both : (a b : Bool) → (a && b) ≡ true → (a ≡ true) × (b ≡ true)
both true b h = (refl, h)
both false b h = cc

and_both : (a b : Bool) → a ≡ true → b ≡ true → (a && b) ≡ true
and_both true b p q = q
and_both false b p q = cc

abbrev is_tuple_of : Header → Typing → Bool
is_tuple_of h y = same_kind (kind.Tuple h) y.kind

abbrev values : List (Named TypeKind) → List TypeKind
values cs = map (λ (c : Named TypeKind). c.value) cs

pub fits : (ks : List TypeKind) (cs : List (Named TypeKind)) → ks ≡ values cs → fit ks cs ≡ true
fits [] [] h = refl
fits [] (c ∷ cs) h = cc
fits (k ∷ ks) [] h = cc
fits (k ∷ ks) (c ∷ cs) h =
    let one : k ≡ c.value = cc in
    let rest : ks ≡ values cs = cc in
    and_both (same_kind k c.value) (fit ks cs) (ap (same_kind k) (sym one) ∙ same_itself k) (fits ks cs rest)

pub fitted : (ks : List TypeKind) (cs : List (Named TypeKind)) → fit ks cs ≡ true → ks ≡ values cs
fitted [] [] h = refl
fitted [] (c ∷ cs) h = cc
fitted (k ∷ ks) [] h = cc
fitted (k ∷ ks) (c ∷ cs) h =
    let b = both (same_kind k c.value) (fit ks cs) h in
    ap (λ k. k ∷ ks) (same k c.value b.0) ∙ ap (λ ks. c.value ∷ ks) (fitted ks cs b.1)

-- by kinds, and by typings
tests_kinds : (h : Header) (ys : List Typing) → list_all (same_kind (kind.Tuple h)) (kinds ys) ≡ list_all (is_tuple_of h) ys
tests_kinds h ys = list_all-map (same_kind (kind.Tuple h)) (λ (y : Typing). y.kind) ys

pub all_tuples : (h : Header) (ys : List Typing) → All (λ (y : Typing). y.kind ≡ kind.Tuple h) ys → list_all (same_kind (kind.Tuple h)) (kinds ys) ≡ true
all_tuples h ys all = tests_kinds h ys ∙ list_all-from_AllPass (is_tuple_of h) ys (λ i d lt. ap (same_kind (kind.Tuple h)) (all i d lt) ∙ same_itself (kind.Tuple h))

pub tuples_all : (h : Header) (ys : List Typing) → list_all (same_kind (kind.Tuple h)) (kinds ys) ≡ true → All (λ (y : Typing). y.kind ≡ kind.Tuple h) ys
tuples_all h ys all = λ i d lt. sym (same (kind.Tuple h) _ (AllPass-from_list_all (is_tuple_of h) ys (sym (tests_kinds h ys) ∙ all) i d lt))
