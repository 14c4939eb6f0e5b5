-- WHERE of a base relvar by the values of its first key.
use Rattle.std.proofs.Common.{◌≡◌, ℕ, Bool, true, false, ◌&&◌, ◌||◌, ◌<◌, ◌+◌, cond, if◌then◌else◌, List, [], ◌∷◌, ◌++◌, map, length, take, get_or, Option, None, Some, is_some, IfOk, IsTrue, Result, Ok, Err, refl, sym, ap, ◌∙◌, subst, true≢false, append_assoc, arith}
use Rattle.std.specs.Cmp.{tied_itself}
use Rattle.std.specs.FinMap as by_name
use Rattle.std.specs.List.{All, Contains}
use Rattle.std.specs.Ordering.{eq_by_cmp, is_eq}
use Rattle.std.proofs.lemmas.List.Elements.{All-push, All-tail, All-weaker}
use Rattle.std.proofs.lemmas.List.Folds.{list_all-append}
use Rattle.std.proofs.lemmas.List.Sorted.{IsPermutation-refl}
use Rattle.td_values.specs.Attributes.{attribute_of}
use Rattle.td_values.specs.Data.{Datum, boolean, Attrs}
use Rattle.td_values.specs.Order.{attrs_order, text_cmp}
use Rattle.td_values.specs.Proving.Total.{order_total, tied}
use Rattle.td_values.specs.Rows.{RowsData}
use Rattle.td_values.proofs.Walks.{is_tied}
use Rattle.td_relations.specs.Sets.{Has, IsRelationOf}
use Rattle.td_relations.proofs.Predicates.{by_predicate}
use Rattle.td_tuples.specs.Parts.{Fits, is_in}
use Rattle.td_tuples.specs.Unions.{tuple_of}
use Rattle.td_tuples.proofs.ByName.{attribute-tuple_of, fits_here}
use Rattle.td_tuples.proofs.Filters.{taken}
use Rattle.td_tuples.proofs.Lists.{same_name}
use Rattle.td_syntax.specs.declared.tree.BinaryOperator.TheVariants as binary
use Rattle.td_typed_trees.specs.declared.tree.Typed.{Typed}
use Rattle.td_typed_trees.specs.declared.tree.Typed.TheVariants as typed
use Rattle.td_algebra.specs.declared.errors.Fault.{Fault}
use Rattle.td_algebra.specs.declared.errors.Fault.TheVariants.{Raised, OutOfMemory, Wanting}
use Rattle.td_algebra.specs.declared.errors.Stop.{Stop}
use Rattle.td_algebra.specs.Functions.{restricted}
use Rattle.td_algebra.specs.KeyIndexes.{AreKeyIndexes, IsKeyIndex, KeyIndexData, has_named, key_names, tuple_names, values_named}
use Rattle.td_algebra.specs.Nested.{relation_value}
use Rattle.td_algebra.specs.Raising.{Answers, and_then}
use Rattle.td_algebra.proofs.ByKey.{all_named}
use Rattle.td_algebra.proofs.Lists.{all_in, contains_in, in_contains}
use Rattle.td_algebra.proofs.Made.{has_in, in_has}
use Rattle.td_algebra.proofs.Narrowed.{narrowed}
use Rattle.td_algebra.proofs.Pairs.{entry_of, of_entry}
use Rattle.td_algebra.proofs.PlacedParts.{itself}
use Rattle.td_algebra.proofs.Told.{all_pass}
use Rattle.td_operators.specs.Operators.{as_value, operate, are_equal}
use Rattle.td_operators.specs.Values.{known, rows_of, truth_of}
use Rattle.td_operators.proofs.KindLemmas.{rows_back}
use Rattle.td_meaning.specs.Mean.{Meaning, Names, Relvars, Selection, mean, mean_and, mean_both, mean_local, mean_relvar, mean_where, or_else, rows_in, truth_at, truth_in, within}
use Rattle.td_meaning.proofs.Forms.{of_binary, of_local, of_relvar, of_where}
use Rattle.td_eval.specs.ForProofs.ByKey.{AddsEqualities, Field, GivesKey, IsConjunction, IsLiteral, SaysIfAny, SaysValues, all_attributes, all_columns, all_values, has_value, is_value}
use Rattle.td_eval.specs.Keyed.{AreByKeys, HasThoseOf, IsByKey, TellsFound, TellsKeyed}

-- ---- truth values
first_true : (a b : Bool) → (a && b) ≡ true → a ≡ true
first_true true b e = refl
first_true false b e = e

second_true : (a b : Bool) → (a && b) ≡ true → b ≡ true
second_true true b e = e
second_true false b e = absurd (true≢false (sym e))

and_true : (b : Bool) → b ≡ (b && true)
and_true true = refl
and_true false = refl

-- ---- a value that is sought
itself_same : (d : Datum) → are_equal d d ≡ true
itself_same d = ap is_eq (tied_itself order_total d)

same_is : (d e : Datum) → are_equal d e ≡ true → d ≡ e
same_is d e is = tied d e (is_tied _ is)

pub tests_same : (b : Bool) (d e : Datum) → (IsTrue b → d ≡ e) → (d ≡ e → IsTrue b) → b ≡ are_equal d e
tests_same true d e one other = sym (ap (λ x. are_equal x e) (one refl) ∙ itself_same e)
tests_same false d e one other = by (are_equal d e) refl
  where
    by : (w : Bool) → are_equal d e ≡ w → false ≡ w
    by true is = other (same_is d e is)
    by false is = refl

is_there : (o : Option Datum) (d : Datum) → is_value o d ≡ true → o ≡ Some d
is_there None d e = absurd (true≢false (sym e))
is_there (Some x) d e = ap Some (same_is x d e)

-- ---- an attribute that is compared with a literal
value_compared : (o outer : Option Datum) (d : Datum) → is_some o ≡ true → and_then (and_then (known (or_else o outer)) (λ x. and_then (Ok d) (operate binary.Equals x))) truth_of ≡ Ok (is_value o d && true)
value_compared None outer d there = absurd (true≢false (sym there))
value_compared (Some x) outer d there = ap Ok (and_true (are_equal x d))

module _ (a b : Typed) (n : List ℕ) (d : Datum) (name : a ≡ typed.Local n) (says : IsLiteral b d) where
  pub one_equality : IsConjunction (typed.Binary binary.Equals a b) ((n, d) ∷ [])
  unfolding truth_in mean_both mean_local
  one_equality = λ r s names t there.
      let here = within t names in
      let value : mean r s a here ≡ known (or_else (attribute_of n t) (names n)) = ap (λ x. mean r s x here) name ∙ ap (λ (m : Meaning). m here) (of_local r s n) in
      ap (λ (m : Meaning). truth_in m here) (of_binary r s binary.Equals a b)
      ∙ (λ i. and_then (and_then (value i) (λ x. and_then (says r s here i) (operate binary.Equals x))) truth_of)
      ∙ value_compared (attribute_of n t) (names n) d (first_true (is_some (attribute_of n t)) true there)

-- ---- AND
both_truths : (x y : Bool) → and_then (and_then (Ok x) (λ b. if b then and_then (Ok y) (λ c. Ok (boolean c)) else Ok (boolean false))) truth_of ≡ Ok (x && y)
both_truths true y = refl
both_truths false y = refl

truth_of_both : (a b : Meaning) (names : Names) (x y : Bool) → truth_in a names ≡ Ok x → truth_in b names ≡ Ok y → truth_in (mean_and a b) names ≡ Ok (x && y)
unfolding truth_in mean_and
truth_of_both a b names x y p q = (λ i. and_then (and_then (p i) (λ t. if t then and_then (q i) (λ u. Ok (boolean u)) else Ok (boolean false))) truth_of) ∙ both_truths x y

module _ (e a b : Typed) (fs gs : List Field) (is : e ≡ typed.Binary binary.And a b) where
  both_conditions : IsConjunction a fs → IsConjunction b gs → IsConjunction e (fs ++ gs)
  both_conditions first second = λ r s names t there.
      let here = within t names in
      let split : (all_attributes fs t && all_attributes gs t) ≡ true = sym (list_all-append (λ f. is_some (attribute_of f.0 t)) fs gs) ∙ there in
      ap (λ x. truth_in (mean r s x) here) is
      ∙ ap (λ (m : Meaning). truth_in m here) (of_binary r s binary.And a b)
      ∙ truth_of_both (mean r s a) (mean r s b) here (all_values fs t) (all_values gs t)
      (first r s names t (first_true (all_attributes fs t) (all_attributes gs t) split)) (second r s names t (second_true (all_attributes fs t) (all_attributes gs t) split))
      ∙ ap Ok (sym (list_all-append (λ f. has_value f t) fs gs))

pub adds_both : (e a b : Typed) (old mid new : List Field) → e ≡ typed.Binary binary.And a b → AddsEqualities a old mid → AddsEqualities b mid new → AddsEqualities e old new
adds_both e a b old mid new is first second = (
  first.0 ++ second.0,
  second.1 ∙ ap (λ xs. xs ++ second.0) first.1 ∙ append_assoc old first.0 second.0,
  both_conditions e a b first.0 second.0 is first.2 second.2,
)

pub adds_if : {E : Type 0} (e a b : Typed) (old mid new : List Field) → e ≡ typed.Binary binary.And a b → AddsEqualities a old mid → (w : Result Bool E) → IfOk w (λ x. IsTrue x → AddsEqualities b mid new) → IfOk w (λ x. IsTrue x → AddsEqualities e old new)
adds_if e a b old mid new is first (Ok x) second = λ yes. adds_both e a b old mid new is first (second yes)
adds_if e a b old mid new is first (Err x) second = tt

-- ---- the values of the key
pub given_at : (fs : List Field) (i : ℕ) (f : Field) (n : List ℕ) → i < length fs → f ≡ get_or fs i f → eq_by_cmp text_cmp f.0 n ≡ true → Contains fs (n, f.1)
given_at fs i f n lt is e =
    let named : f ≡ (n, f.1) = λ j. (same_name f.0 n (is_tied _ e) j, f.1) in
    subst (Contains fs) named (i, lt, sym is)

-- these are the key's names, with values of theirs
pub record AreGiven (key : List (List ℕ)) (fs gs : List Field) : Type 0 where
  pub names : map (λ g. g.0) gs ≡ key
  pub given : All (Contains fs) gs

module _ (key : List (List ℕ)) (i : ℕ) (n : List ℕ) (lt : i < length key) (is : n ≡ get_or key i n) (fs gs more : List Field) (d : Datum) (f : Field) where
  pub one_given : AreGiven (take i key) fs gs → Contains fs (n, d) → more ≡ gs ++ f ∷ [] → f.0 ≡ n → f.1 ≡ d → AreGiven (take (i + 1) key) fs more
  one_given are there e name value = record {
    names = ap (map (λ (g : Field). g.0)) e ∙ pushed gs ∙ (λ j. are.names j ++ name j ∷ []) ∙ sym (taken key i n lt is);
    given = subst (All (Contains fs)) (sym e) (All-push (Contains fs) gs f are.given (subst (Contains fs) (λ j. (sym name j, sym value j)) there));
  }
    where
      pushed : (xs : List Field) → map (λ (g : Field). g.0) (xs ++ f ∷ []) ≡ map (λ (g : Field). g.0) xs ++ f.0 ∷ []
      pushed [] = refl
      pushed (x ∷ xs) = ap (λ ns. x.0 ∷ ns) (pushed xs)

module _ (fs : List Field) (t : Attrs) (all : all_values fs t ≡ true) where
  abbrev AllThere : List Field → Type 0
  AllThere gs = All (λ (g : Field). attribute_of g.0 t ≡ Some g.1) gs

  there_if_given : (g : Field) → Contains fs g → attribute_of g.0 t ≡ Some g.1
  there_if_given g given = is_there (attribute_of g.0 t) g.1 (all_pass (λ f. has_value f t) fs all g (contains_in fs g given))

  all_there : (gs : List Field) → All (Contains fs) gs → AllThere gs
  all_there gs given k d lt = there_if_given (get_or gs k d) (given k d lt)

  found_there : (gs : List Field) → AllThere gs → (n : List ℕ) → is_in (map (λ g. g.0) gs) n ≡ true → attribute_of n t ≡ by_name.find text_cmp n gs
  found_there [] a n i = absurd (true≢false (sym i))
  found_there (g ∷ gs) a n i =
      elim (eq_by_cmp text_cmp n g.0) as (λ b. eq_by_cmp text_cmp n g.0 ≡ b → (b || is_in (map (λ k. k.0) gs) n) ≡ true → attribute_of n t ≡ cond b (Some g.1) (by_name.find text_cmp n gs)) [
        | true ↦ λ e _. subst (λ k. attribute_of k t ≡ Some g.1) (sym (same_name n g.0 (is_tied _ e))) (a 0 g (omega arith))
        | false ↦ λ _ j. found_there gs (All-tail (λ (k : Field). attribute_of k.0 t ≡ Some k.1) g gs a) n j
      ] refl i

  pub has_key : (key : List (List ℕ)) (gs : List Field) → AreGiven key fs gs → has_named key (tuple_of gs) t ≡ true
  has_key key gs are =
      let alike : values_named key t ≡ values_named key (tuple_of gs) =
      all_named t (tuple_of gs) key (λ n i. found_there gs (all_there gs are.given) n (subst (λ ks. is_in ks n ≡ true) (sym are.names) i) ∙ sym (attribute-tuple_of gs n)) in
      ap (λ v. eq_by_cmp attrs_order v (values_named key (tuple_of gs))) alike ∙ itself (values_named key (tuple_of gs))

-- ---- what is found by an index
-- indexes of a relvar are those of the relation that it has
pub all_by_keys : (m : Result RowsData Stop) (r : RowsData) (xs : List KeyIndexData) → m ≡ Ok r → AreByKeys m xs → AreKeyIndexes r xs
all_by_keys m r xs has by = All-weaker (λ (x : KeyIndexData). IsByKey m x.key x) (λ (x : KeyIndexData). IsKeyIndex x.key r x) (λ x k. subst (λ s. IsKeyIndex x.key s x) (one_rows k.0 k.1) k.2) xs by
  where
    one_rows : (s : RowsData) → m ≡ Ok s → s ≡ r
    one_rows s is = let are_equal : Ok s ≡ Ok r = sym is ∙ has in cc

module _ (key : List (List ℕ)) (r : RowsData) (x : KeyIndexData) (t : Attrs) (index : IsKeyIndex key r x) where
  pub those_found : (s : RowsData) → All (Fits r.heading) r.tuples → tuple_names t ≡ key_names x.heading x.key → IsRelationOf x.heading (λ u. Contains x.tuples u × (has_named x.key t u ≡ true)) s → HasThoseOf x.key r t s
  those_found s fit names is = record {
    fit = fit;
    names = names ∙ ap (λ h. key_names h x.key) index.heading;
    tuples = subst (λ h. IsRelationOf h (λ u. Contains r.tuples u × (has_named x.key t u ≡ true)) s) index.heading (by_predicate x.heading (λ u. Contains x.tuples u × (has_named x.key t u ≡ true)) (λ u. Contains r.tuples u × (has_named x.key t u ≡ true)) s is (λ u. (
      λ w. (in_contains r.tuples u (has_in r u (entry_of r x.tuples index.tuples u (contains_in x.tuples u w.0))), w.1),
      λ w. (in_contains x.tuples u (of_entry r x.tuples index.tuples u (in_has r u (contains_in r.tuples u w.0))), w.1),
    )));
  }

-- ---- a relation restricted by the condition, and its tuples with that key
module _ (v : Relvars) (s : Selection) (names : Names) (c : Typed) (fs : List Field) (is : IsConjunction c fs) (r : RowsData) (key : List (List ℕ)) (sought : Attrs) (part : RowsData) (those : HasThoseOf key r sought part) (columns : all_columns fs part.heading ≡ true)
    (held : GivesKey key fs sought) where
  abbrev truth : Attrs → Result Bool Stop
  truth = truth_at (mean v s c) names

  columns_named : (gs : List Field) (t : Attrs) → Fits r.heading t → all_attributes gs t ≡ all_columns gs r.heading
  columns_named [] t f = refl
  columns_named (g ∷ gs) t f =
      let here = fits_here r.heading t f g.0 in
      let rest = columns_named gs t f in
      λ i. here i && rest i

  decided : (t : Attrs) → Has r t → truth t ≡ Ok (all_values fs t)
  unfolding truth_at
  decided t has = is v s names t (columns_named fs t (all_in (Fits r.heading) r.tuples those.fit t (has_in r t has)) ∙ ap (all_columns fs) (sym those.tuples.heading) ∙ columns)

  fails : (t : Attrs) (b : Bool) → all_values fs t ≡ b → has_named key sought t ≡ false → b ≡ false
  fails t true all none = absurd (true≢false (sym (held t all) ∙ none))
  fails t false all none = refl

  others : (t : Attrs) → Has r t → has_named key sought t ≡ false → truth t ≡ Ok false
  others t has none = decided t has ∙ ap Ok (fails t (all_values fs t) refl none)

  pub decided_there : SaysValues fs part truth
  decided_there t has = decided t (in_has r t (contains_in r.tuples t (those.tuples.only t has).0))

  pub same_restricted : restricted truth part ≡ restricted truth r
  same_restricted = narrowed truth r part (has_named key sought) (record { heading = r.heading; key = []; tuples = r.tuples }) (record { heading = refl; key = refl; tuples = IsPermutation-refl r.tuples }) those.tuples others

-- ---- what the look-up tells
-- a relvar of which something is found has a relation
pub found_of : (m : Result RowsData Stop) (o : Option (List (List ℕ))) (key : List (List ℕ)) (t : Attrs) (part : RowsData) → TellsFound m o t (Some part) → o ≡ Some key → (r : RowsData) × (m ≡ Ok r) × HasThoseOf key r t part
found_of (Ok r) (Some k) key t part told is = (r, refl, subst (λ n. HasThoseOf n r t part) (one_key k key is) told)
  where
    one_key : (k key : List (List ℕ)) → Some k ≡ Some key → k ≡ key
    one_key k key is = cc
found_of (Ok r) None key t part told is = cc
found_of (Err e) o key t part told is = absurd told

-- the answer, if it is a value
abbrev pub some_of : {A W : Type 0} → Result A (Fault W) → Result (Option A) (Fault W)
some_of (Ok a) = Ok (Some a)
some_of (Err f) = Err f

module _ (v : Relvars) (s : Selection) (names : Names) (place : ℕ) (c : Typed) where
  abbrev meant : Result Datum Stop
  meant = mean_where (mean_relvar v place) (mean v s c) names

  abbrev kept : RowsData → Result RowsData Stop
  kept r = restricted (truth_at (mean v s c) names) r

  relvar_back : (w : Result RowsData Stop) → and_then (and_then w as_value) rows_of ≡ w
  relvar_back (Ok r) = rows_back (relation_value r) r refl
  relvar_back (Err e) = refl

  of_relation : (w : Result RowsData Stop) → v place ≡ w → meant ≡ and_then w (λ r. and_then (kept r) as_value)
  unfolding mean_where mean_relvar rows_in
  of_relation w is = ap (λ x. and_then x (λ r. and_then (kept r) as_value)) (relvar_back (v place) ∙ is)

  -- its error
  pub error_told : {W : Type 0} (m : Result RowsData Stop) (key : Option (List (List ℕ))) (t : Attrs) (f : Fault W) → v place ≡ m → TellsKeyed m key t (Err f) → SaysIfAny relation_value (Err f) meant
  error_told m key t (Raised e) is told = of_relation (Err e) (is ∙ told)
  error_told m key t OutOfMemory is told = tt
  error_told m key t (Wanting w) is told = tt

  module _ (m : Result RowsData Stop) (r part : RowsData) (is : v place ≡ m) (has : m ≡ Ok r) (are_equal : kept part ≡ kept r) where
    of_part : (w : Result RowsData Stop) → kept part ≡ w → meant ≡ and_then w as_value
    of_part w e = of_relation (Ok r) (is ∙ has) ∙ ap (λ x. and_then x as_value) (sym are_equal ∙ e)

    pub part_says : {W : Type 0} (a : Result RowsData (Fault W)) → Answers a (kept part) → SaysIfAny relation_value (some_of a) meant
    part_says (Ok n) answers = of_part (Ok n) answers
    part_says (Err (Raised e)) answers = of_part (Err e) answers
    part_says (Err OutOfMemory) answers = tt
    part_says (Err (Wanting w)) answers = tt

-- ---- WHERE of a base relvar
pub where_is : (v : Relvars) (s : Selection) (names : Names) (place : ℕ) (e c : Typed) → e ≡ typed.Where (typed.Relvar place) c → mean_where (mean_relvar v place) (mean v s c) names ≡ mean v s e names
where_is v s names place e c is =
    sym (ap (λ x. mean v s x names) is
    ∙ ap (λ (m : Meaning). m names) (of_where v s (typed.Relvar place) c)
    ∙ ap (λ (m : Meaning). mean_where m (mean v s c) names) (of_relvar v s place))

-- an error is one whatever a value would be
pub error_kept : {A B C W : Type 0} (see : A → C) (other : B → C) (f : Fault W) (m n : Result C Stop) → m ≡ n → SaysIfAny see (Err f) m → SaysIfAny other (Err f) n
error_kept see other (Raised e) m n is says = sym is ∙ says
error_kept see other OutOfMemory m n is says = tt
error_kept see other (Wanting w) m n is says = tt

pub error_answers : {A W : Type 0} (f : Fault W) (m : Result A Stop) → SaysIfAny (λ (d : A). d) (Err f) m → Answers {A = A} (Err f) m
error_answers (Raised e) m says = says
error_answers OutOfMemory m says = tt
error_answers (Wanting w) m says = tt
