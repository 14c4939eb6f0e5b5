-- The places that a statement names, gathered.
use Rattle.std.proofs.Common.{◌≡◌, ◌↔◌, ⊎_elim, Bool, IsTrue, ℕ, ◌+◌, ◌<◌, List, [], ◌∷◌, ◌++◌, map, length, get_or, slice_get, take, MatchOption, Option, None, Some, Result, Ok, Err, refl, ap, sym, ◌∙◌, subst, arith, false, OnOk}
use Rattle.std.specs.List.{All, Contains, flat_map}
use Rattle.std.specs.List.Sorted.{IsStrictlySortedBy}
use Rattle.std.specs.Ordering.{nat_cmp}
use Rattle.std.proofs.lemmas.List.{take_more}
use Rattle.std.proofs.lemmas.List.Elements.{All-more, Contains-append_cases, Contains-append_left, Contains-append_right, Contains-push, Contains-push_cases}
use Rattle.td_values.specs.declared.TypeKind.TheVariants as kind
use Rattle.td_syntax.specs.declared.script.Action.{Action}
use Rattle.td_syntax.specs.declared.script.Statement.{Statement}
use Rattle.td_syntax.specs.declared.script.Statement.TheVariants as statement
use Rattle.td_schema.specs.Kinds.{Name}
use Rattle.td_typed_trees.specs.declared.expression.BaseUnder.{BaseUnder}
use Rattle.td_typed_trees.specs.declared.expression.Expression.{Expression}
use Rattle.td_typed_trees.specs.declared.tree.Typed.{Typed}
use Rattle.td_typing.specs.Trees.{typing}
use Rattle.td_typing.proofs.Complete.{complete}
use Rattle.td_typing.proofs.KindLemmas.{some_same}
use Rattle.td_headings.specs.Catalogues.{CatalogueData}
use Rattle.td_headings.specs.Definitions.{Defined}
use Rattle.td_headings.specs.Expressions.{HasAllUnder, IsClosedExpression, IsConstraint, constraint_at, constraint_of, places_of, reads}
use Rattle.td_headings.specs.Reached.{AreThose, ReadsRelvar}
use Rattle.td_headings.specs.Statements.{AreAssignments, IsAssignment, IsTarget, TypesStatement, assignments_of, condition_of, next_assignment, no_assignments, types_assignment, types_conditional}
use Rattle.td_headings.specs.declared.defined.Test.{Test}
use Rattle.td_headings.specs.declared.defined.Test.TheVariants as test
use Rattle.td_headings.specs.declared.statement.TypedAssignment.{TypedAssignment}
use Rattle.td_headings.specs.declared.statement.TypedStatement.{TypedStatement}
use Rattle.td_headings.proofs.ConditionLemmas.{actions_of, are_all}
use Rattle.td_headings.proofs.ReadLemmas.{reads_those}
use Rattle.td_headings.proofs.WellTyped.{all_typed}
use Rattle.td_integrity.proofs.After.{the_only}
use Rattle.td_semantics.proofs.Unique.{one_text}
use Rattle.td_semantics.specs.Footprints.{InFootprint, IsInFootprint, IsTargetOfText, TestReads, by_condition, by_source, by_test, target}
use Rattle.td_semantics.specs.Steps.{IsRead, IsUnreadText}
use Rattle.td_assign.specs.ForProofs.Names.{AreNames, Gathers, HasMore, ReadsNoTarget, ReadsWith, condition_reads}
use Rattle.td_assign.specs.Readings.{IsReadText}
use Rattle.td_assign.specs.declared.names.NamedRelvars.{NamedRelvars}

-- ---- lists
nowhere : {A P : Type 0} (y : A) → Contains [] y → P
nowhere y h = absurd (omega (arith, h.1))

first : {A : Type 0} (x : A) (xs : List A) → Contains (x ∷ xs) x
first x xs = (0, omega arith, refl)

further : {A : Type 0} (x : A) (xs : List A) (y : A) → Contains xs y → Contains (x ∷ xs) y
further x xs y h = Contains-append_right (x ∷ []) xs y h

either : {A P : Type 0} (x : A) (xs : List A) (y : A) → Contains (x ∷ xs) y → (x ≡ y → P) → (Contains xs y → P) → P
either x xs y h here later = ⊎_elim (λ one. ⊎_elim (λ none. nowhere y none) here (Contains-push_cases [] x y one)) later (Contains-append_cases (x ∷ []) xs y h)

those_alike : (P Q : ℕ → Type 0) (places : List ℕ) → ((n : ℕ) → P n ↔ Q n) → AreThose P places → AreThose Q places
those_alike P Q places same a = record { members = λ n. (λ h. (same n).0 ((a.members n).0 h), λ q. (a.members n).1 ((same n).1 q)); ascending = a.ascending }

nothing_ascends : IsStrictlySortedBy nat_cmp []
unfolding IsStrictlySortedBy
nothing_ascends = tt

none_of : (P : ℕ → Type 0) → ((n : ℕ) → P n → ⊥) → AreThose P []
none_of P never = record { members = λ n. (λ h. nowhere n h, λ p. absurd (never n p)); ascending = nothing_ascends }

-- ---- gathering
module _ {A : Type 0} (P : A → ℕ → Type 0) where
  gathers_more : (xs : List A) (x : A) (places more : List ℕ) → Gathers P xs places → ((n : ℕ) → Contains more n ↔ P x n) → Gathers P (xs ++ x ∷ []) (places ++ more)
  gathers_more xs x places more all is n = (
    λ h. ⊎_elim
        (λ old. let q = (all n).0 old in (q.0, Contains-append_left xs (x ∷ []) q.0 q.1, q.2))
        (λ new. (x, Contains-push xs x, (is n).0 new))
        (Contains-append_cases places more n h),
    λ q. ⊎_elim
        (λ old. Contains-append_left places more n ((all n).1 (q.0, old, q.2)))
        (λ e. Contains-append_right places more n ((is n).1 (subst (λ (y : A). P y n) (sym e) q.2)))
        (Contains-push_cases xs x q.0 q.1),
  )

  pub gathers_next : (xs : List A) (i : ℕ) (d : A) (places more : List ℕ) → i < length xs → Gathers P (take i xs) places → ((n : ℕ) → Contains more n ↔ P (get_or xs i d) n) → Gathers P (take (i + 1) xs) (places ++ more)
  gathers_next xs i d places more lt all is =
      subst (λ (ys : List A). Gathers P ys (places ++ more)) (sym (take_more xs i d lt)) (gathers_more (take i xs) (get_or xs i d) places more all is)

module _ {A : Type 0} (f : A → List ℕ) where
  in_flat : (xs : List A) (n : ℕ) → Contains (flat_map f xs) n ↔ ((x : A) × Contains xs x × Contains (f x) n)
  in_flat [] n = (λ h. nowhere n h, λ q. nowhere q.0 q.1)
  in_flat (x ∷ xs) n =
      let rest = in_flat xs n in (
        λ h. ⊎_elim
            (λ here. (x, first x xs, here))
            (λ later. let q = rest.0 later in (q.0, further x xs q.0 q.1, q.2))
            (Contains-append_cases (f x) (flat_map f xs) n h),
        λ q. either x xs q.0 q.1
            (λ e. Contains-append_left (f x) (flat_map f xs) n (subst (λ (y : A). Contains (f y) n) (sym e) q.2))
            (λ later. Contains-append_right (f x) (flat_map f xs) n (rest.1 (q.0, later, q.2))),
      )

-- ---- what a call on an expression tells
pub constraint_reads : (c : CatalogueData) → Defined c → (place : ℕ) (t : Test) (name : Name) (u : Typed) → slice_get c.tests place ≡ Some t → t ≡ test.Constraint name u → (o : Option Expression) (e : Expression) → o ≡ Some e → MatchOption o (constraint_at c place ≡ None) (IsConstraint c (constraint_at c place)) → (n : ℕ) → Contains (reads e) n ↔ TestReads c t n
constraint_reads c defined place t name u stands is o e some h n =
    let tree : constraint_at c place ≡ Some u = ap constraint_of (stands ∙ ap Some is) in
    let closed : IsClosedExpression c u kind.Boolean e = subst (λ k. IsConstraint c k e) tree (subst (λ q. MatchOption q (constraint_at c place ≡ None) (IsConstraint c (constraint_at c place))) some h) in
    subst (λ (w : Test). Contains (reads e) n ↔ TestReads c w n) (sym is)
    (subst (λ (v : Typed). Contains (reads e) n ↔ ReadsRelvar c.origins v n) closed.tree ((reads_those c (all_typed c defined) e closed.under).members n))

-- ---- which of the relvars that a test reads are targets
pub record IsNoTarget (targets : List ℕ) (b : BaseUnder) : Type 0 where
  pub off : Contains targets b.place → ⊥

pub no_more : (targets : List ℕ) (bs : List BaseUnder) (i : ℕ) (b : BaseUnder) → i < length bs → b ≡ get_or bs i b → (Contains targets b.place → ⊥) → All (IsNoTarget targets) (take i bs) → All (IsNoTarget targets) (take (i + 1) bs)
no_more targets bs i b lt at off all = All-more (IsNoTarget targets) bs i b lt all (subst (IsNoTarget targets) at (record { off = off }))

pub read_there : (bs : List BaseUnder) (n : ℕ) → Contains (map (λ (b : BaseUnder). b.place) bs) n → (b : BaseUnder) × Contains bs b × (b.place ≡ n)
read_there [] n h = nowhere n h
read_there (b ∷ bs) n h = either b.place (map (λ (d : BaseUnder). d.place) bs) n h (λ same. (b, first b bs, same)) (λ later. let d = read_there bs n later in (d.0, further b bs d.0 d.1, d.2))

pub there_read : (bs : List BaseUnder) (b : BaseUnder) → Contains bs b → Contains (map (λ (d : BaseUnder). d.place) bs) b.place
there_read [] b h = nowhere b h
there_read (d ∷ bs) b h = either d bs b h (λ same. subst (λ n. Contains (map (λ (k : BaseUnder). k.place) (d ∷ bs)) n) (ap (λ (k : BaseUnder). k.place) same) (first d.place (map (λ (k : BaseUnder). k.place) bs))) (λ later. further d.place (map (λ (k : BaseUnder). k.place) bs) b.place (there_read bs b later))

pub meets_read : (P : ℕ → Type 0) (targets : List ℕ) (r : Bool) (bs cs : List BaseUnder) → bs ≡ cs → IsTrue r ↔ ((b : BaseUnder) × Contains bs b × Contains targets b.place) → ((n : ℕ) → Contains (map (λ (b : BaseUnder). b.place) cs) n ↔ P n) → IsTrue r ↔ ((n : ℕ) × P n × Contains targets n)
meets_read P targets r bs cs same met reads_it = (
  λ yes_. let b = met.0 yes_ in (b.0.place, (reads_it b.0.place).0 (there_read cs b.0 (subst (λ ds. Contains ds b.0) same b.1)), b.2),
  λ some.
      let b = read_there cs some.0 ((reads_it some.0).1 some.1) in
      met.1 (b.0, subst (λ ds. Contains ds b.0) (sym same) b.1, subst (Contains targets) (sym b.2) some.2),
)

-- ---- what a typed statement names
under : (c : CatalogueData) (as' : List Action) (xs : List TypedAssignment) → AreAssignments c as' xs → (x : TypedAssignment) → Contains xs x → HasAllUnder c x.source
under c [] [] no_assignments x h = nowhere x h
under c (a ∷ as') (y ∷ xs) (next_assignment p ps) x h = either y xs x h (λ e. subst (λ (z : TypedAssignment). HasAllUnder c z.source) e p.source.under) (under c as' xs ps x)
under c [] (y ∷ xs) p x h = elim p [ ]
under c (a ∷ as') [] p x h = elim p [ ]

condition_under : (c : CatalogueData) (s : Statement) (x : TypedStatement) → TypesStatement c s x → (u : Expression) → condition_of x ≡ Some u → HasAllUnder c u
condition_under c (statement.Assignment as') x (types_assignment h) u is = cc
condition_under c (statement.Conditional a as' bs) x (types_conditional {u = v} i p q) u is = subst (HasAllUnder c) (some_same v u is) i.expression.under

module _ (c : CatalogueData) (x : TypedStatement) (typed : (s : Statement) × TypesStatement c s x) (defined : Defined c) (ts needed : List ℕ) (are_targets : AreThose (IsTarget x) ts) (gathers : Gathers (ReadsWith c ts) c.tests needed) where
  -- what the sources read
  abbrev read : List ℕ
  read = flat_map (λ (y : TypedAssignment). reads y.source) (assignments_of x)

  source_reads : (y : TypedAssignment) → Contains (assignments_of x) y → (n : ℕ) → Contains (reads y.source) n ↔ ReadsRelvar c.origins y.source.tree n
  source_reads y there = (reads_those c (all_typed c defined) y.source (under c (actions_of typed.0) (assignments_of x) (are_all c typed.0 x typed.1) y there)).members

  -- what the condition reads
  decided : (u : Expression) → condition_of x ≡ Some u → (n : ℕ) → Contains (reads u) n ↔ ReadsRelvar c.origins u.tree n
  decided u is = (reads_those c (all_typed c defined) u (condition_under c typed.0 x typed.1 u is)).members

  by_its_condition : (n : ℕ) (o : Option Expression) → condition_of x ≡ o → Contains (condition_reads o) n → InFootprint c x n
  by_its_condition n None is h = nowhere n h
  by_its_condition n (Some u) is h = by_condition is ((decided u is n).0 h)

  read_by_condition : (n : ℕ) (u : Expression) → condition_of x ≡ Some u → ReadsRelvar c.origins u.tree n → Contains (condition_reads (condition_of x)) n
  read_by_condition n u is h = subst (λ o. Contains (condition_reads o) n) (sym is) ((decided u is n).1 h)

  -- all that is gathered
  abbrev pub gathered : List ℕ
  gathered = ((ts ++ needed) ++ condition_reads (condition_of x)) ++ read

  named : (n : ℕ) → Contains gathered n → InFootprint c x n
  named n h = ⊎_elim
      (λ front. ⊎_elim
      (λ more. ⊎_elim
      (λ is. target ((are_targets.members n).0 is))
      (λ need. let q = (gathers n).0 need in by_test q.1 q.2.1 ((are_targets.members q.2.0).0 q.2.2) q.2.3)
      (Contains-append_cases ts needed n more))
      (λ decides. by_its_condition n (condition_of x) refl decides)
      (Contains-append_cases (ts ++ needed) (condition_reads (condition_of x)) n front))
      (λ of. let q = (in_flat (λ (y : TypedAssignment). reads y.source) (assignments_of x) n).0 of in by_source q.1 ((source_reads q.0 q.1 n).0 q.2))
      (Contains-append_cases ((ts ++ needed) ++ condition_reads (condition_of x)) read n h)

  in_front : (n : ℕ) → Contains ((ts ++ needed) ++ condition_reads (condition_of x)) n → Contains gathered n
  in_front n h = Contains-append_left ((ts ++ needed) ++ condition_reads (condition_of x)) read n h

  at_first : (n : ℕ) → Contains (ts ++ needed) n → Contains gathered n
  at_first n h = in_front n (Contains-append_left (ts ++ needed) (condition_reads (condition_of x)) n h)

  is_named : (n : ℕ) → InFootprint c x n → Contains gathered n
  is_named n (target h) = at_first n (Contains-append_left ts needed n ((are_targets.members n).1 h))
  is_named n (by_condition {u = u} is r) = in_front n (Contains-append_right (ts ++ needed) (condition_reads (condition_of x)) n (read_by_condition n u is r))
  is_named n (by_source {a = a} there r) = Contains-append_right ((ts ++ needed) ++ condition_reads (condition_of x)) read n ((in_flat (λ (y : TypedAssignment). reads y.source) (assignments_of x) n).1 (a, there, (source_reads a there n).1 r))
  is_named n (by_test {m = m} {t = t} there q h r) = at_first n (Contains-append_right ts needed n ((gathers n).1 (t, there, (m, q, (are_targets.members m).1 h, r))))

  pub footprint_those : (places all : List ℕ) → all ≡ gathered → AreThose (Contains all) places → AreThose (InFootprint c x) places
  footprint_those places all is a = those_alike (Contains all) (InFootprint c x) places (λ n. (λ h. named n (subst (λ (l : List ℕ). Contains l n) is h), λ f. subst (λ (l : List ℕ). Contains l n) (sym is) (is_named n f))) a

-- ---- a text names what its statement does
module _ (c : CatalogueData) where
  one_target : (a : Action) (x y : TypedAssignment) → IsAssignment c a x → IsAssignment c a y → x.target ≡ y.target
  one_target a x y p q = ap (λ z. z.0) (some_same (x.target, p.relvar) (y.target, q.relvar) (sym p.names ∙ q.names))

  one_tree : (a : Action) (x y : TypedAssignment) → IsAssignment c a x → IsAssignment c a y → x.source.tree ≡ y.source.tree
  one_tree a x y p q = ap (λ z. z.tree) (some_same (typing x.source.tree x.source.kind) (typing y.source.tree y.source.kind) (sym (complete c.schema p.source.types) ∙ complete c.schema q.source.types))

  same_targets : (as' : List Action) (xs ys : List TypedAssignment) → AreAssignments c as' xs → AreAssignments c as' ys → map (λ (x : TypedAssignment). x.target) xs ≡ map (λ (x : TypedAssignment). x.target) ys
  same_targets [] [] [] no_assignments no_assignments = refl
  same_targets [] [] (y ∷ ys) p q = elim q [ ]
  same_targets [] (x ∷ xs) ys p q = elim p [ ]
  same_targets (a ∷ as') [] ys p q = elim p [ ]
  same_targets (a ∷ as') (x ∷ xs) [] p q = elim q [ ]
  same_targets (a ∷ as') (x ∷ xs) (y ∷ ys) (next_assignment p ps) (next_assignment q qs) = λ i. one_target a x y p q i ∷ same_targets as' xs ys ps qs i

  same_tree : (as' : List Action) (xs ys : List TypedAssignment) → AreAssignments c as' xs → AreAssignments c as' ys → (z : TypedAssignment) → Contains xs z → (w : TypedAssignment) × Contains ys w × (z.source.tree ≡ w.source.tree)
  same_tree [] [] ys p q z h = nowhere z h
  same_tree [] (x ∷ xs) ys p q z h = elim p [ ]
  same_tree (a ∷ as') [] ys p q z h = elim p [ ]
  same_tree (a ∷ as') (x ∷ xs) [] p q z h = elim q [ ]
  same_tree (a ∷ as') (x ∷ xs) (y ∷ ys) (next_assignment p ps) (next_assignment q qs) z h =
      either x xs z h
      (λ e. (y, first y ys, subst (λ (v : TypedAssignment). v.source.tree ≡ y.source.tree) e (one_tree a x y p q)))
      (λ later. let k = same_tree as' xs ys ps qs z later in (k.0, further y ys k.0 k.1, k.2))

  one_condition : (s : Statement) (x y : TypedStatement) → TypesStatement c s x → TypesStatement c s y → (u : Expression) → condition_of x ≡ Some u → (v : Expression) × (condition_of y ≡ Some v) × (u.tree ≡ v.tree)
  one_condition (statement.Assignment as') x y (types_assignment h) q u is = cc
  one_condition (statement.Conditional a as' bs) x y (types_conditional {u = w} i p q) (types_conditional {u = v} j k l) u is = (
    v,
    refl,
    subst (λ z. z.tree ≡ v.tree) (some_same w u is)
        (ap (λ z. z.tree) (some_same (typing w.tree w.kind) (typing v.tree v.kind) (sym (complete c.schema i.expression.types) ∙ complete c.schema j.expression.types))),
  )

  module _ (dialect : ℕ) (text : List ℕ) where
    typed_so : (x y : TypedStatement) (p : IsRead c dialect text x) (q : IsRead c dialect text y) → TypesStatement c p.statement y
    typed_so x y p q = subst (λ s. TypesStatement c s y) (one_text dialect text q.statement p.statement q.reads p.reads) q.types

    own : (x : TypedStatement) (p : IsRead c dialect text x) → AreAssignments c (actions_of p.statement) (assignments_of x)
    own x p = are_all c p.statement x p.types

    moved : (x y : TypedStatement) (p : IsRead c dialect text x) (q : IsRead c dialect text y) → AreAssignments c (actions_of p.statement) (assignments_of y)
    moved x y p q = are_all c p.statement y (typed_so x y p q)

    one_targets : (x y : TypedStatement) (p : IsRead c dialect text x) (q : IsRead c dialect text y) → map (λ (z : TypedAssignment). z.target) (assignments_of x) ≡ map (λ (z : TypedAssignment). z.target) (assignments_of y)
    one_targets x y p q = same_targets (actions_of p.statement) (assignments_of x) (assignments_of y) (own x p) (moved x y p q)

    target_moves : (x y : TypedStatement) (p : IsRead c dialect text x) (q : IsRead c dialect text y) (n : ℕ) → IsTarget x n → IsTarget y n
    target_moves x y p q n h = subst (λ (ts : List ℕ). Contains ts n) (one_targets x y p q) h

    place_moves : (x y : TypedStatement) (p : IsRead c dialect text x) (q : IsRead c dialect text y) (n : ℕ) → InFootprint c x n → InFootprint c y n
    place_moves x y p q n (target h) = target (target_moves x y p q n h)
    place_moves x y p q n (by_condition {u = u} is r) =
        let k = one_condition p.statement x y p.types (typed_so x y p q) u is in
        by_condition k.1 (subst (λ w. ReadsRelvar c.origins w n) k.2 r)
    place_moves x y p q n (by_source {a = a} there r) =
        let k = same_tree (actions_of p.statement) (assignments_of x) (assignments_of y) (own x p) (moved x y p q) a there in
        by_source k.1 (subst (λ u. ReadsRelvar c.origins u n) k.2 r)
    place_moves x y p q n (by_test {m = m} there k h r) = by_test there k (target_moves x y p q m h) r

    pub targets_read : (x : TypedStatement) → IsRead c dialect text x → (places : List ℕ) → AreThose (IsTarget x) places → AreThose (IsTargetOfText c dialect text) places
    targets_read x p places ts =
        those_alike (IsTarget x) (IsTargetOfText c dialect text) places (λ n. (λ h. record { statement = x; reads = p; target = h }, λ t. target_moves t.statement x t.reads p n t.target)) ts

    targets_unread : IsUnreadText c dialect text → (places : List ℕ) → places ≡ [] → AreThose (IsTargetOfText c dialect text) places
    targets_unread unread places none = subst (AreThose (IsTargetOfText c dialect text)) (sym none) (none_of (IsTargetOfText c dialect text) (λ n t. unread t.statement t.reads))

    pub footprint_unread : IsUnreadText c dialect text → (places : List ℕ) → places ≡ [] → AreThose (IsInFootprint c dialect text) places
    footprint_unread unread places none = subst (AreThose (IsInFootprint c dialect text)) (sym none) (none_of (IsInFootprint c dialect text) (λ n t. unread t.statement t.reads))

    pub names_read : (x : TypedStatement) → IsRead c dialect text x → (v : NamedRelvars) → AreThose (IsTarget x) v.targets.items → AreThose (InFootprint c x) v.footprint.items → AreNames c dialect text v
    names_read x p v ts ns = record {
      targets = targets_read x p v.targets.items ts;
      footprint = those_alike (InFootprint c x) (IsInFootprint c dialect text) v.footprint.items (λ n. (λ h. record { statement = x; reads = p; within = h }, λ t. place_moves t.statement x t.reads p n t.within)) ns;
    }

    pub names_unread : IsUnreadText c dialect text → (v : NamedRelvars) → v.targets.items ≡ [] → v.footprint.items ≡ [] → AreNames c dialect text v
    names_unread unread v ts ns = record {
      targets = targets_unread unread v.targets.items ts;
      footprint = footprint_unread unread v.footprint.items ns;
    }

-- ---- what is read of a text
pub read_names : (c : CatalogueData) (dialect : ℕ) (text : List ℕ) (o : Option TypedStatement) (v w : NamedRelvars) → MatchOption o (IsUnreadText c dialect text) (IsRead c dialect text) → w ≡ v → AreNames c dialect text v → IsReadText c dialect text (record { statement = o; names = w })
read_names c dialect text o v w is same are = record {
  statement = is;
  targets = subst (λ (x : NamedRelvars). AreThose (IsTargetOfText c dialect text) x.targets.items) (sym same) are.targets;
  footprint = subst (λ (x : NamedRelvars). AreThose (IsInFootprint c dialect text) x.footprint.items) (sym same) are.footprint;
}

-- ---- constraints that read no target
pub no_target_more : (c : CatalogueData) (place : ℕ) (ts : List ℕ) (i x : ℕ) → i < length ts → x ≡ get_or ts i 0 → ReadsNoTarget c (take i ts) place → ((u : Typed) → constraint_at c place ≡ Some u → ReadsRelvar c.origins u x → ⊥) → ReadsNoTarget c (take (i + 1) ts) place
no_target_more c place ts i x lt is none one u here n there read = ⊎_elim
    (λ (front : Contains (take i ts) n). none u here n front read)
    (λ (last : Contains (x ∷ []) n). one u here (subst (ReadsRelvar c.origins u) (the_only x n last) read))
    (Contains-append_cases (take i ts) (x ∷ []) n (subst (λ (ws : List ℕ). Contains ws n) (take_more ts i 0 lt ∙ ap (λ (q : ℕ). take i ts ++ q ∷ []) (sym is)) there))

pub no_target_read : (c : CatalogueData) (targets : List ℕ) (place : ℕ) (t : Test) (x : List ℕ) (u : Typed) → slice_get c.tests place ≡ Some t → t ≡ test.Constraint x u → ReadsNoTarget c targets place → IsTrue false ↔ ((n : ℕ) × TestReads c t n × Contains targets n)
no_target_read c targets place t x u at is none = (
  λ never. cc,
  λ h. absurd (none u (ap constraint_of (at ∙ ap Some is)) h.0 h.2 (subst (λ (w : Test). TestReads c w h.0) is h.1)),
)

-- ---- what a test reads, behind other places
pub key_reads : (c : CatalogueData) (t : Test) (m : ℕ) (key : List Name) → t ≡ test.Key m key → (n : ℕ) → Contains (m ∷ []) n ↔ TestReads c t n
key_reads c t m key is n = subst (λ (w : Test). Contains (m ∷ []) n ↔ TestReads c w n) (sym is) (λ h. the_only m n h, λ e. subst (Contains (m ∷ [])) (sym e) (first m []))

pub added_reads : {E : Type 0} (P : ℕ → Type 0) (old new : List ℕ) (bs cs : List BaseUnder) → cs ≡ bs → (r : Result (Unit {0}) E) → OnOk r (new ≡ old ++ places_of cs) → ((n : ℕ) → Contains (places_of bs) n ↔ P n) → OnOk r (HasMore P old new)
added_reads P old new bs cs same (Ok u) is are = (places_of bs, is ∙ ap (λ ds. old ++ places_of ds) same, are)
added_reads P old new bs cs same (Err e) is are = tt
