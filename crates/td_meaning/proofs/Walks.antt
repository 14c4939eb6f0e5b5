-- Steps of the loops over lists of operands.
use Rattle.std.proofs.Common.{◌≡◌, ◌<◌, ◌+◌, ◌++◌, ℕ, List, [], ◌∷◌, length, get_or, drop, true, false, cond, Option, None, Some, Result, Ok, Err, pos, refl, sym, ap, ◌∙◌}
use Rattle.std.proofs.lemmas.List.{drop_more}
use Rattle.td_values.specs.Data.{Datum, integer}
use Rattle.td_values.specs.Rows.{RowsData}
use Rattle.td_syntax.specs.declared.tree.Named.{Named}
use Rattle.td_tuples.specs.declared.items.Item.{Item}
use Rattle.td_typed_trees.specs.declared.tree.Typed.{Typed}
use Rattle.td_algebra.specs.declared.errors.Fault.{Fault}
use Rattle.td_algebra.specs.declared.errors.Fault.TheVariants.{Raised, OutOfMemory, Wanting}
use Rattle.td_algebra.specs.declared.errors.Stop.{Stop}
use Rattle.td_algebra.specs.Nested.{relation_value}
use Rattle.td_algebra.specs.Raising.{Answers, AnswersBy, and_then}
use Rattle.td_meaning.specs.declared.scope.KnownValue.{KnownValue}
use Rattle.td_meaning.specs.ForProofs.Latest.{latest}
use Rattle.td_meaning.specs.ForProofs.Over.{Means, list_meant, items_meant, item_meant, all_meant}
use Rattle.td_meaning.specs.Mean.{Names, at, named_at, introduced, given, are_equal_names}
use Rattle.td_operators.specs.ForProofs.Turns.{turn}
use Rattle.td_operators.specs.Operators.{as_value, operate_on}
use Rattle.td_operators.proofs.KindLemmas.{rows_back}
use Rattle.td_syntax.specs.declared.tree.UnaryOperator.TheVariants as unary
use Rattle.td_meaning.specs.Seen.{all_given, held_value}

-- an error that was answered within, as the answer
pub fails : {A B V W : Type 0} (see : V → B) (fault : Fault W) (w : Result A Stop) (all : Result B Stop) → ((e : Stop) → w ≡ Err e → all ≡ Err e) → Answers {A = A} (Err fault) w → AnswersBy see (Err fault) all
fails see OutOfMemory w all stops h = tt
fails see (Wanting n) w all stops h = tt
fails see (Raised e) w all stops h = stops e h

module _ (m : Means) (names : Names) where
  -- ---- values
  module _ (xs : List Typed) (i : ℕ) (x a : Typed) (done : List Datum) (within : i < length xs) (is : x ≡ get_or xs i x) (value : a ≡ x) where
    at_is : at names (m x) ≡ m a names
    unfolding at
    at_is = ap (λ b. m b names) (sym value)

    value_more : turn (at names) done (list_meant m (drop i xs)) ≡ and_then (at names (m x)) (λ d. turn (at names) (done ++ d ∷ []) (list_meant m (drop (i + 1) xs)))
    value_more =
        ap (λ ys. turn (at names) done (list_meant m ys)) (drop_more xs i x within)
        ∙ ap (λ y. and_then (at names (m y)) (λ d. turn (at names) (done ++ d ∷ []) (list_meant m (drop (i + 1) xs)))) (sym is)

    pub value_goes : (d : Datum) → m a names ≡ Ok d → turn (at names) done (list_meant m (drop i xs)) ≡ turn (at names) (done ++ d ∷ []) (list_meant m (drop (i + 1) xs))
    value_goes d h = value_more ∙ ap (λ w. and_then w (λ d. turn (at names) (done ++ d ∷ []) (list_meant m (drop (i + 1) xs)))) (at_is ∙ h)

    pub value_stops : (e : Stop) → m a names ≡ Err e → turn (at names) done (list_meant m (drop i xs)) ≡ Err e
    value_stops e h = value_more ∙ ap (λ w. and_then w (λ d. turn (at names) (done ++ d ∷ []) (list_meant m (drop (i + 1) xs)))) (at_is ∙ h)

  -- ---- names and values
  module _ (xs : List (Item Typed)) (i : ℕ) (x : Item Typed) (a : Typed) (done : List (List ℕ × Datum)) (within : i < length xs) (is : x ≡ get_or xs i x) (value : a ≡ x.term) where
    named_is : named_at names (item_meant m x) ≡ and_then (m a names) (λ d. Ok (x.name, d))
    unfolding named_at
    named_is = ap (λ b. and_then (m b names) (λ d. Ok (x.name, d))) (sym value)

    field_more : turn (named_at names) done (items_meant m (drop i xs)) ≡ and_then (named_at names (item_meant m x)) (λ f. turn (named_at names) (done ++ f ∷ []) (items_meant m (drop (i + 1) xs)))
    field_more =
        ap (λ ys. turn (named_at names) done (items_meant m ys)) (drop_more xs i x within)
        ∙ ap (λ y. and_then (named_at names (item_meant m y)) (λ f. turn (named_at names) (done ++ f ∷ []) (items_meant m (drop (i + 1) xs)))) (sym is)

    pub field_goes : (d : Datum) → m a names ≡ Ok d → turn (named_at names) done (items_meant m (drop i xs)) ≡ turn (named_at names) (done ++ (x.name, d) ∷ []) (items_meant m (drop (i + 1) xs))
    field_goes d h = field_more ∙ ap (λ w. and_then w (λ f. turn (named_at names) (done ++ f ∷ []) (items_meant m (drop (i + 1) xs)))) (named_is ∙ ap (λ w. and_then w (λ d. Ok (x.name, d))) h)

    pub field_stops : (e : Stop) → m a names ≡ Err e → turn (named_at names) done (items_meant m (drop i xs)) ≡ Err e
    field_stops e h = field_more ∙ ap (λ w. and_then w (λ f. turn (named_at names) (done ++ f ∷ []) (items_meant m (drop (i + 1) xs)))) (named_is ∙ ap (λ w. and_then w (λ d. Ok (x.name, d))) h)

-- ---- names of WITH

module _ (m : Means) (names : Names) (xs : List (Named Typed)) (i : ℕ) (x : Named Typed) (a : Typed) (within : i < length xs) (is : x ≡ get_or xs i x) (value : a ≡ x.value) where
  name_more : introduced (all_meant m (drop i xs)) names ≡ and_then (m a names) (λ d. introduced (all_meant m (drop (i + 1) xs)) (given x.name d names))
  unfolding introduced
  name_more =
      ap (λ ys. introduced (all_meant m ys) names) (drop_more xs i x within)
      ∙ ap (λ (y : Named Typed). and_then (m y.value names) (λ d. introduced (all_meant m (drop (i + 1) xs)) (given y.name d names))) (sym is)
      ∙ ap (λ b. and_then (m b names) (λ d. introduced (all_meant m (drop (i + 1) xs)) (given x.name d names))) (sym value)

  pub name_goes : (d : Datum) → m a names ≡ Ok d → introduced (all_meant m (drop i xs)) names ≡ introduced (all_meant m (drop (i + 1) xs)) (given x.name d names)
  name_goes d h = name_more ∙ ap (λ w. and_then w (λ d. introduced (all_meant m (drop (i + 1) xs)) (given x.name d names))) h

  pub name_stops : (e : Stop) → m a names ≡ Err e → introduced (all_meant m (drop i xs)) names ≡ Err e
  name_stops e h = name_more ∙ ap (λ w. and_then w (λ d. introduced (all_meant m (drop (i + 1) xs)) (given x.name d names))) h

given_behind : (ns : List (Named KnownValue)) (n : Named KnownValue) (outer : Names) → all_given (ns ++ n ∷ []) outer ≡ given n.name (held_value n.value) (all_given ns outer)
given_behind [] n outer = refl
given_behind (m ∷ ns) n outer = given_behind ns n (given m.name (held_value m.value) outer)

pub one_more_given : (old new : List (Named KnownValue)) (x : List ℕ) (h : KnownValue) (d : Datum) (outer : Names) → held_value h ≡ d → new ≡ old ++ record { name = x; value = h } ∷ [] → all_given new outer ≡ given x d (all_given old outer)
one_more_given old new x h d outer same is =
    ap (λ ns. all_given ns outer) is ∙ given_behind old (record { name = x; value = h }) outer ∙ ap (λ d. given x d (all_given old outer)) same

-- the last of the names, as it is found
abbrev pub or_outer : Option KnownValue → Option Datum → Option Datum
or_outer None o = o
or_outer (Some h) o = Some (held_value h)

pub last_given : (ns : List (Named KnownValue)) (names : Names) (x : List ℕ) (f : Option KnownValue) (o : Option Datum) → names x ≡ or_outer f o → all_given ns names x ≡ or_outer (latest ns x f) o
last_given [] names x f o e = e
last_given (n ∷ ns) names x f o e =
    last_given ns (given n.name (held_value n.value) names) x (cond (are_equal_names n.name x) (Some n.value) f) o
    (elim (are_equal_names n.name x) as (λ b. cond b (Some (held_value n.value)) (names x) ≡ or_outer (cond b (Some n.value) f) o) [ true ↦ refl | false ↦ e ])

-- ---- a relation made over a relation

module _ (all : Result RowsData Stop) (f : RowsData → Result RowsData Stop) (ts us : RowsData) (first : all ≡ Ok ts) (lent : us ≡ ts) where
  over_first : and_then all (λ r. and_then (f r) as_value) ≡ and_then (f us) as_value
  over_first = ap (λ w. and_then w (λ r. and_then (f r) as_value)) first ∙ ap (λ r. and_then (f r) as_value) (sym lent)

  pub made_over : (n : RowsData) (d : Datum) → f us ≡ Ok n → d ≡ relation_value n → and_then all (λ r. and_then (f r) as_value) ≡ Ok d
  made_over n d made is = over_first ∙ ap (λ w. and_then w as_value) made ∙ ap Ok (sym is)

  pub stops_over : (e : Stop) → f us ≡ Err e → and_then all (λ r. and_then (f r) as_value) ≡ Err e
  stops_over e stop = over_first ∙ ap (λ w. and_then w as_value) stop

-- ---- how many tuples a relation has that is made
counted_value : (w : Result RowsData Stop) → and_then (and_then w as_value) (operate_on unary.Count) ≡ and_then (and_then w (λ r. Ok (length r.tuples))) (λ n. Ok (integer (pos n)))
counted_value (Ok r) = ap (λ v. and_then v (λ (s : RowsData). Ok (integer (pos (length s.tuples))))) (rows_back (relation_value r) r refl)
counted_value (Err e) = refl

module _ (all : Result RowsData Stop) (f : RowsData → Result RowsData Stop) (ts us : RowsData) (first : all ≡ Ok ts) (lent : us ≡ ts) where
  count_over : and_then (and_then all (λ r. and_then (f r) as_value)) (operate_on unary.Count) ≡ and_then (and_then (f us) (λ r. Ok (length r.tuples))) (λ n. Ok (integer (pos n)))
  count_over = ap (λ w. and_then w (operate_on unary.Count)) (over_first all f ts us first lent) ∙ counted_value (f us)

  pub counted_over : (n : ℕ) → and_then (f us) (λ r. Ok (length r.tuples)) ≡ Ok n → and_then (and_then all (λ r. and_then (f r) as_value)) (operate_on unary.Count) ≡ Ok (integer (pos n))
  counted_over n made = count_over ∙ ap (λ w. and_then w (λ k. Ok (integer (pos k)))) made

  pub count_stops : (e : Stop) → and_then (f us) (λ r. Ok (length r.tuples)) ≡ Err e → and_then (and_then all (λ r. and_then (f r) as_value)) (operate_on unary.Count) ≡ Err e
  count_stops e stop = count_over ∙ ap (λ w. and_then w (λ k. Ok (integer (pos k)))) stop
