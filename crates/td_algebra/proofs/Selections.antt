-- Restriction: which tuples are selected.
use Rattle.std.proofs.Common.{◌≡◌, ℕ, ◌+◌, ◌++◌, ◌<◌, ◌≤◌, Bool, true, false, cond, if◌then◌else◌, List, [], ◌∷◌, length, get_or, drop, Result, Ok, Err, refl, sym, ap, ◌∙◌, subst, append_assoc, append-nil, ⊎_elim, inl, inr, ◌⊎◌, arith, min}
use Rattle.std.specs.List.{All, AllByRecursion, Contains, filter}
use Rattle.std.specs.List.Sorted.{IsStrictlySortedBy}
use Rattle.std.specs.declared.cmp.Ordering.TheVariants.{Less}
use Rattle.td_values.specs.Order.{attrs_order}
use Rattle.std.proofs.lemmas.List.{drop_more, drop_all}
use Rattle.std.proofs.lemmas.List.Elements.{All-contains, All-contains_itself, All-weaker}
use Rattle.std.proofs.lemmas.Bool.{cases_lt}
use Rattle.td_algebra.specs.declared.errors.Stop.{Stop}
use Rattle.td_values.specs.Data.{Attrs}
use Rattle.td_values.specs.Rows.{RowsData}
use Rattle.std.specs.FinSet as set
use Rattle.td_relations.specs.Sets.{IsRelation, IsRelationOf}
use Rattle.td_relations.proofs.Members.{has_listed}
use Rattle.td_relations.proofs.Predicates.{by_list}
use Rattle.td_algebra.specs.declared.errors.Fault.{Fault}
use Rattle.td_algebra.specs.declared.errors.Fault.TheVariants.{Raised, OutOfMemory, Wanting}
use Rattle.td_algebra.specs.Raising.{AnswersBy, Unless, UnlessRaised, all_of}
use Rattle.td_algebra.specs.Restricting.{Restricted, RaisedIn, select}
use Rattle.td_algebra.proofs.Walks.{Tells, tells, ok_split, contains_cases, contains_first, contains_later}

select_none : {X : Type 0} (xs : List X) → select xs [] ≡ []
select_none [] = refl
select_none (x ∷ xs) = refl

select_end : {X : Type 0} (xs : List X) (bs : List Bool) (i : ℕ) → min (length xs) (length bs) ≤ i → select (drop i xs) (drop i bs) ≡ []
select_end xs bs i h =
    ⊎_elim (λ lt. ap (λ d. select (drop i xs) d) (drop_all i bs (omega (arith, h, lt))) ∙ select_none (drop i xs)) (λ le. ap (λ d. select d (drop i bs)) (drop_all i xs le)) (cases_lt i (length xs))

select_put : {X : Type 0} (b : Bool) (acc ys : List X) (x : X) → (acc ++ cond b (x ∷ []) []) ++ ys ≡ acc ++ (if b then x ∷ ys else ys)
select_put true acc ys x = append_assoc acc (x ∷ []) ys
select_put false acc ys x = append_assoc acc [] ys

-- one more place
pub select_more : {X : Type 0} (acc xs : List X) (bs : List Bool) (i : ℕ) (x : X) (b : Bool) → i < length xs → i < length bs → (acc ++ cond (get_or bs i b) (get_or xs i x ∷ []) []) ++ select (drop (i + 1) xs) (drop (i + 1) bs) ≡ acc ++ select (drop i xs) (drop i bs)
select_more acc xs bs i x b h k =
    select_put (get_or bs i b) acc (select (drop (i + 1) xs) (drop (i + 1) bs)) (get_or xs i x)
    ∙ sym (ap (λ d. acc ++ select d (drop i bs)) (drop_more xs i x h) ∙ ap (λ d. acc ++ select (get_or xs i x ∷ drop (i + 1) xs) d) (drop_more bs i b k))

pub select_over : {X : Type 0} (acc xs : List X) (bs : List Bool) (i : ℕ) → min (length xs) (length bs) ≤ i → acc ++ select (drop i xs) (drop i bs) ≡ acc
select_over acc xs bs i h = ap (λ ys. acc ++ ys) (select_end xs bs i h) ∙ append-nil acc

-- ---- what is selected

first_by : {X : Type 0} (x : X) (b : Bool) (xs ys : List X) (y : X) → Contains (if b then x ∷ ys else ys) y → (Contains ys y → Contains xs y) → Contains (x ∷ xs) y
first_by x true xs ys y there more = ⊎_elim (λ e. contains_first x xs y e) (λ c. contains_later x xs y (more c)) (contains_cases x ys y there)
first_by x false xs ys y there more = contains_later x xs y (more there)

pub selected_within : {X : Type 0} (xs : List X) (bs : List Bool) (y : X) → Contains (select xs bs) y → Contains xs y
selected_within [] bs y there = there
selected_within (x ∷ xs) [] y there = absurd (omega (arith, there.1))
selected_within (x ∷ xs) (b ∷ bs) y there = first_by x b xs (select xs bs) y there (selected_within xs bs y)

pub all_selected : {X : Type 0} (P : X → Type 0) (xs : List X) (bs : List Bool) → All P xs → All P (select xs bs)
all_selected P xs bs all = All-weaker (Contains (select xs bs)) P (λ x there. All-contains P xs x all (selected_within xs bs x there)) (select xs bs) (All-contains_itself (select xs bs))

-- what ascends does so without those that are not selected
above_selected : (x : Attrs) (xs : List Attrs) (bs : List Bool) → AllByRecursion (λ y. attrs_order x y ≡ Less) xs → AllByRecursion (λ y. attrs_order x y ≡ Less) (select xs bs)
above_selected x [] bs a = tt
above_selected x (y ∷ ys) [] a = tt
above_selected x (y ∷ ys) (true ∷ bs) a = (a.0, above_selected x ys bs a.1)
above_selected x (y ∷ ys) (false ∷ bs) a = above_selected x ys bs a.1

pub selected_ascends : (xs : List Attrs) (bs : List Bool) → IsStrictlySortedBy attrs_order xs → IsStrictlySortedBy attrs_order (select xs bs)
unfolding IsStrictlySortedBy
selected_ascends [] bs s = tt
selected_ascends (x ∷ xs) [] s = tt
selected_ascends (x ∷ xs) (true ∷ bs) s = (above_selected x xs bs s.0, selected_ascends xs bs s.1)
selected_ascends (x ∷ xs) (false ∷ bs) s = selected_ascends xs bs s.1

above_filter : (p : Attrs → Bool) (x : Attrs) (xs : List Attrs) → AllByRecursion (λ y. attrs_order x y ≡ Less) xs → AllByRecursion (λ y. attrs_order x y ≡ Less) (filter p xs)
above_filter p x [] a = tt
above_filter p x (y ∷ ys) a = elim (p y) as (λ b. AllByRecursion (λ z. attrs_order x z ≡ Less) (cond b (y ∷ filter p ys) (filter p ys))) [
  | true ↦ (a.0, above_filter p x ys a.1)
  | false ↦ above_filter p x ys a.1
]

pub filter_ascends : (p : Attrs → Bool) (xs : List Attrs) → IsStrictlySortedBy attrs_order xs → IsStrictlySortedBy attrs_order (filter p xs)
unfolding IsStrictlySortedBy
filter_ascends p [] s = tt
filter_ascends p (x ∷ xs) s = elim (p x) as (λ b. IsStrictlySortedBy attrs_order (cond b (x ∷ filter p xs) (filter p xs))) [
  | true ↦ (above_filter p x xs s.0, filter_ascends p xs s.1)
  | false ↦ filter_ascends p xs s.1
]

module _ {X : Type 0} (m : X → Result Bool Stop) where
  true_by : (x : X) (b : Bool) (xs ys : List X) (y : X) → m x ≡ Ok b → Contains (if b then x ∷ ys else ys) y → (Contains ys y → m y ≡ Ok true) → m y ≡ Ok true
  true_by x true xs ys y is there more = ⊎_elim (λ e. sym (ap m e) ∙ is) more (contains_cases x ys y there)
  true_by x false xs ys y is there more = more there

  -- the selected ones pass
  pub selected_pass : (xs : List X) (bs : List Bool) (y : X) → all_of m xs ≡ Ok bs → Contains (select xs bs) y → m y ≡ Ok true
  selected_pass [] bs y all there = absurd (omega (arith, there.1))
  selected_pass (x ∷ xs) [] y all there = absurd (omega (arith, there.1))
  selected_pass (x ∷ xs) (b ∷ bs) y all there =
      let (c, cs, is, rest, same) = ok_split m x xs (b ∷ bs) all in
      let first : c ≡ b = cc in
      let others : cs ≡ bs = cc in
      true_by x b xs (select xs bs) y (is ∙ ap Ok first) there (selected_pass xs bs y (rest ∙ ap Ok others))

  kept_by : (x : X) (b : Bool) (ys : List X) (y : X) → m x ≡ Ok b → m y ≡ Ok true → (x ≡ y) ⊎ Contains ys y → Contains (if b then x ∷ ys else ys) y
  kept_by x true ys y is pass where_ = ⊎_elim (λ e. contains_first x ys y e) (λ c. contains_later x ys y c) where_
  kept_by x false ys y is pass where_ = ⊎_elim (λ e. let g : Ok false ≡ m y = sym is ∙ ap m e in absurd (grind (arith, g, pass))) (λ c. c) where_

  -- and those that pass are selected
  pub passing_selected : (xs : List X) (bs : List Bool) (y : X) → all_of m xs ≡ Ok bs → Contains xs y → m y ≡ Ok true → Contains (select xs bs) y
  passing_selected [] bs y all there pass = there
  passing_selected (x ∷ xs) bs y all there pass =
      let (b, cs, is, rest, same) = ok_split m x xs bs all in
      rw same (kept_by x b (select xs cs) y is pass (⊎_elim (λ e. inl e) (λ c. inr (passing_selected xs cs y rest c pass)) (contains_cases x xs y there)))

-- ---- the restriction of a relation

module _ {A : Type 0} (m : Attrs → Result A Stop) (r : RowsData) where
  raised_in : (e : Stop) → RaisedIn m r e → (t : Attrs) × Contains r.tuples t × (m t ≡ Err e)
  raised_in e (t, has, raises) = (t, (has_listed r t).0 has, raises)

  none_raised : (xs : List A) → all_of m r.tuples ≡ Ok xs → (e : Stop) → RaisedIn m r e → ⊥
  none_raised xs all e raised = let (t, there, raises) = raised_in e raised in subst (Tells m r.tuples) all (tells m r.tuples) t there e raises

  -- want of memory, or the least error that is raised
  pub walk_fails : {B W : Type 0} (see : B → List A) (P : RowsData → Type 0) (f : Fault W) → AnswersBy see (Err f) (all_of m r.tuples) → Unless (RaisedIn m r) P (Err f)
  walk_fails see P OutOfMemory all = tt
  walk_fails see P (Wanting w) all = tt
  walk_fails see P (Raised e) all =
      let (found, least) = subst (Tells m r.tuples) all (tells m r.tuples) in
      ((found.0, (has_listed r found.0).1 found.1, found.2), λ f raised. let (t, there, raises) = raised_in f raised in least t there f raises)

pub restricts : (m : Attrs → Result Bool Stop) (r : RowsData) (bs : List Bool) (s : RowsData) → all_of m r.tuples ≡ Ok bs → IsRelation r.heading (set.from_list (select r.tuples bs)) s → UnlessRaised (RaisedIn m r) (IsRelationOf r.heading (Restricted m r)) (Ok s)
restricts m r bs s all is = (
  none_raised m r bs all,
  by_list r.heading (select r.tuples bs) (Restricted m r) s is (λ t. (
    λ there. ((has_listed r t).1 (selected_within r.tuples bs t there), selected_pass m r.tuples bs t all there),
    λ (has, pass). passing_selected m r.tuples bs t all ((has_listed r t).0 has) pass,
  )),
)
