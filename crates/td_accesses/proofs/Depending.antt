-- Dependencies that grow keep what they tell.
use Rattle.std.proofs.Common.{◌≡◌, ◌⊎◌, ⊎_elim, inl, inr, ◌+◌, ◌<◌, ◌≤◌, ◌++◌, ◌∷◌, [], ℕ, zero, suc, true, false, List, Option, Some, None, MatchOption, length, get_or, slice_get, slice_set, take, refl, ap, sym, ◌∙◌, subst, arith}
use Rattle.std.specs.List.{All, Contains}
use Rattle.std.proofs.lemmas.Bool.{cases_eq}
use Rattle.std.proofs.lemmas.List.{get_or-set_other, get_or-set_same, length-set}
use Rattle.std.proofs.lemmas.List.Elements.{All-contains, All-more, All-weaker, Contains-append_left, Contains-append_right, Contains-push}
use Rattle.std.proofs.lemmas.Option.{get_or_from_slice_get, slice_get-get_or, slice_get_past, slice_get_within}
use Rattle.td_headings.specs.Catalogues.{CatalogueData}
use Rattle.td_headings.specs.Definitions.{Defined}
use Rattle.td_headings.specs.Expressions.{HasAllUnder, IsClosedExpression, IsConstraint, constraint_at, constraint_of, reads}
use Rattle.td_headings.specs.Reached.{ReadsRelvar}
use Rattle.td_headings.proofs.ReadLemmas.{reads_those}
use Rattle.td_headings.proofs.WellTyped.{all_typed}
use Rattle.td_typed_trees.specs.declared.expression.Expression.{Expression}
use Rattle.td_values.specs.declared.TypeKind.TheVariants as kind
use Rattle.td_headings.specs.declared.defined.Test.{Test}
use Rattle.td_headings.specs.declared.defined.Test.TheVariants as test
use Rattle.td_typed_trees.specs.declared.tree.Typed.{Typed}
use Rattle.td_incremental.specs.Growth.{IsWatched}
use Rattle.td_incremental.specs.References.{RefersBy}
use Rattle.td_incremental.specs.Safety as safety
use Rattle.td_incremental.specs.Safety.{IsSafe}
use Rattle.td_incremental.specs.declared.references.Reference.{Reference}
use Rattle.td_accesses.specs.Commuting.{AllJudgeGrowth}
use Rattle.td_accesses.specs.ForProofs.Accessed.{IsSuited}
use Rattle.td_accesses.specs.ForProofs.Growing.{HasKey}
use Rattle.td_accesses.specs.Dependencies.{AreDependencies, IsReference, DependsOn, TellsDependency, TellsDependencies}
use Rattle.td_accesses.specs.ForProofs.Depending.{AreAllGrown, DependsOnOther, IsGrown, TellsAll, TellsTest}
use Rattle.td_accesses.specs.declared.dependencies.RelvarDependencies.{RelvarDependencies}

pub among : (n : ℕ) (ns : List ℕ) → Contains ns n ⊎ (Contains ns n → ⊥)
among n [] = inr (λ h. omega (arith, h.1))
among n (m ∷ ns) = ⊎_elim
    (λ (same : m ≡ n). inl (0, omega arith, same))
    (λ off. ⊎_elim (λ h. inl (Contains-append_right (m ∷ []) ns n h)) (λ none. inr (λ h. by h off none)) (among n ns))
    (cases_eq m n)
  where
    by : Contains (m ∷ ns) n → (m ≡ n → ⊥) → (Contains ns n → ⊥) → ⊥
    by (zero, lt, is) off none = off is
    by (suc i, lt, is) off none = none (i, omega (arith, lt), is)

-- ---- the dependencies of one relvar
pub grown_itself : (x : RelvarDependencies) → IsGrown x x
grown_itself x = record { suited = λ h. h; references = λ r h. h; bound = λ n h. h }

pub grown_in_turn : (x y z : RelvarDependencies) → IsGrown x y → IsGrown y z → IsGrown x z
grown_in_turn x y z one two = record {
  suited = λ h. one.suited (two.suited h);
  references = λ r h. two.references r (one.references r h);
  bound = λ n h. two.bound n (one.bound n h);
}

module _ (x y : RelvarDependencies) (suited : y.is_suited ≡ x.is_suited) where
  pub bound_more : (n : ℕ) → y.references.items ≡ x.references.items → y.bound.items ≡ x.bound.items ++ n ∷ [] → IsGrown x y
  bound_more n same more = record {
    suited = λ h. sym suited ∙ h;
    references = λ r h. subst (λ (rs : List Reference). Contains rs r) (sym same) h;
    bound = λ m h. subst (λ (ns : List ℕ). Contains ns m) (sym more) (Contains-append_left x.bound.items (n ∷ []) m h);
  }

  pub refers_more : (r : Reference) → y.references.items ≡ x.references.items ++ r ∷ [] → y.bound.items ≡ x.bound.items → IsGrown x y
  refers_more r more same = record {
    suited = λ h. sym suited ∙ h;
    references = λ q h. subst (λ (rs : List Reference). Contains rs q) (sym more) (Contains-append_left x.references.items (r ∷ []) q h);
    bound = λ m h. subst (λ (ns : List ℕ). Contains ns m) (sym same) h;
  }

module _ (c : CatalogueData) (m : ℕ) (u : Typed) where
  pub depends_by_bound : (n : ℕ) (x : RelvarDependencies) (ns : List ℕ) → x.bound.items ≡ ns ++ n ∷ [] → DependsOn c m n u x
  depends_by_bound n x ns more = inl (subst (λ (ms : List ℕ). Contains ms n) (sym more) (Contains-push ns n))

  pub depends_by_reference : (n : ℕ) (x : RelvarDependencies) (rs : List Reference) (r : Reference) → x.references.items ≡ rs ++ r ∷ [] → IsReference c m n u r → DependsOn c m n u x
  depends_by_reference n x rs r more is = inr (r, subst (λ (qs : List Reference). Contains qs r) (sym more) (Contains-push rs r), is)

  pub by_relvar : (n : ℕ) (r : Reference) → r.relvar ≡ m → RefersBy c n r.relvar r.names.items u → IsReference c m n u (record { relvar = n; names = r.names })
  by_relvar n r same refers = record { relvar = refl; refers = subst (λ k. RefersBy c n k r.names.items u) same refers }

  depends_stays : (n : ℕ) (x y : RelvarDependencies) → IsGrown x y → DependsOn c m n u x → DependsOn c m n u y
  depends_stays n x y more (inl bound) = inl (more.bound n bound)
  depends_stays n x y more (inr (r, there, is)) = inr (r, more.references r there, is)

  pub depends_on_stays : (x y : RelvarDependencies) → IsGrown x y → (n : ℕ) → DependsOnOther c m u x n → DependsOnOther c m u y n
  depends_on_stays x y more n is = record { depends = λ apart. depends_stays n x y more (is.depends apart) }

  told_stays : (n : ℕ) (x y : RelvarDependencies) → IsGrown x y → TellsDependency c m n u x → TellsDependency c m n u y
  told_stays n x y more (inl unread) = inl unread
  told_stays n x y more (inr (inl safe)) = inr (inl safe)
  told_stays n x y more (inr (inr (watched, depends))) = inr (inr (watched, depends_stays n x y more depends))

  pub tells_stays : (x y : RelvarDependencies) → IsGrown x y → TellsDependencies c m u x → TellsDependencies c m u y
  tells_stays x y more is = record {
    judges = λ h. is.judges (more.suited h);
    told = λ h n apart. told_stays n x y more (is.told (more.suited h) n apart);
  }

  -- a constraint that cannot be broken, one that goes by what is inserted, and any other one
  pub tells_safe : (x : RelvarDependencies) → IsSafe c m u → TellsDependencies c m u x
  tells_safe x safe = record { judges = λ h. inr safe; told = λ h n apart. inr (inl safe) }

  pub tells_unread : (x : RelvarDependencies) → (ReadsRelvar c.origins u m → ⊥) → TellsDependencies c m u x
  tells_unread x unread = tells_safe x (safety.unread u unread)

  pub tells_watched : (x : RelvarDependencies) (ns : List ℕ) → ((n : ℕ) → ReadsRelvar c.origins u n → Contains ns n) → IsWatched c m u → All (DependsOnOther c m u x) ns → TellsDependencies c m u x
  tells_watched x ns reads watched all = record {
    judges = λ h. inl watched;
    told = λ h n apart. ⊎_elim
        (λ there. inr (inr (watched, (All-contains (DependsOnOther c m u x) ns n all there).depends apart)))
        (λ none. inl (λ read. none (reads n read)))
        (among n ns);
  }

  pub tells_unsuited : (x : RelvarDependencies) → x.is_suited ≡ false → TellsDependencies c m u x
  tells_unsuited x not_ = record {
    judges = λ h. let no : true ≡ false = sym h ∙ not_ in cc;
    told = λ h n apart. let no : true ≡ false = sym h ∙ not_ in cc;
  }

-- with one relvar more
pub depends_further : (c : CatalogueData) (m : ℕ) (u : Typed) (ns : List ℕ) (i d : ℕ) (x y : RelvarDependencies) → i < length ns → IsGrown x y → DependsOnOther c m u y (get_or ns i d) → All (DependsOnOther c m u x) (take i ns) → All (DependsOnOther c m u y) (take (i + 1) ns)
depends_further c m u ns i d x y lt more here all =
    All-more (DependsOnOther c m u y) ns i d lt (All-weaker (DependsOnOther c m u x) (DependsOnOther c m u y) (depends_on_stays c m u x y more) (take i ns) all) here

-- ---- the dependencies of all relvars
pub all_themselves : (xs : List RelvarDependencies) → AreAllGrown xs xs
all_themselves xs = record { from = λ m y at. (y, at, grown_itself y) }

pub all_in_turn : (xs ys zs : List RelvarDependencies) → AreAllGrown xs ys → AreAllGrown ys zs → AreAllGrown xs zs
all_in_turn xs ys zs one two = record {
  from = λ m z at.
      let y = two.from m z at in
      let x = one.from m y.0 y.1 in
      (x.0, x.1, grown_in_turn x.0 y.0 z x.2 y.2);
}

-- one relvar's dependencies have grown
module _ (xs : List RelvarDependencies) (i : ℕ) (x y : RelvarDependencies) (lt : i < length xs) (at : x ≡ get_or xs i x) where
  now_there : (z : RelvarDependencies) → slice_get (slice_set xs i y) i ≡ Some z → y ≡ z
  now_there z is = sym (get_or-set_same xs i y z lt) ∙ get_or_from_slice_get (slice_set xs i y) i z z is

  pub set_grown : IsGrown x y → AreAllGrown xs (slice_set xs i y)
  set_grown more = record {
    from = λ m z is. ⊎_elim
        (λ (same : m ≡ i).
        let there = now_there z (ap (slice_get (slice_set xs i y)) (sym same) ∙ is) in
        (x, ap (slice_get xs) same ∙ slice_get-get_or xs i x lt ∙ ap Some (sym at), subst (IsGrown x) there more))
        (λ apart.
        let within = slice_get_within (slice_set xs i y) m z is in
        let many = length-set xs i y in
        let old : m < length xs = omega (arith, within, many) in
        (z, slice_get-get_or xs m z old ∙ ap Some (sym (get_or-set_other xs i m y z apart) ∙ get_or_from_slice_get (slice_set xs i y) m z z is), grown_itself z))
        (cases_eq m i);
  }

  pub set_tells : (c : CatalogueData) (u : Typed) → TellsDependencies c i u y → TellsAll c u (slice_set xs i y) i
  set_tells c u told = record { tells = λ z is. subst (TellsDependencies c i u) (now_there z is) told }

pub none_tells : (c : CatalogueData) (u : Typed) (xs : List RelvarDependencies) (i : ℕ) → length xs ≤ i → TellsAll c u xs i
none_tells c u xs i end = record {
  tells = λ z is. let none : Some z ≡ None = sym is ∙ slice_get_past xs i end in cc;
}

all_tell : (c : CatalogueData) (u : Typed) (xs ys : List RelvarDependencies) → AreAllGrown xs ys → (m : ℕ) → TellsAll c u xs m → TellsAll c u ys m
all_tell c u xs ys more m is = record {
  tells = λ y at. let x = more.from m y at in tells_stays c m u x.0 y x.2 (is.tells x.0 x.1);
}

-- with one relvar more
pub tells_further : (c : CatalogueData) (u : Typed) (ns : List ℕ) (i d : ℕ) (xs ys : List RelvarDependencies) → i < length ns → AreAllGrown xs ys → TellsAll c u ys (get_or ns i d) → All (TellsAll c u xs) (take i ns) → All (TellsAll c u ys) (take (i + 1) ns)
tells_further c u ns i d xs ys lt more here all =
    All-more (TellsAll c u ys) ns i d lt (All-weaker (TellsAll c u xs) (TellsAll c u ys) (all_tell c u xs ys more) (take i ns) all) here

-- ---- a test
pub key_tells : (c : CatalogueData) (xs : List RelvarDependencies) (m : ℕ) (ks : List (List ℕ)) (t : Test) → t ≡ test.Key m ks → TellsTest c xs t
key_tells c xs m ks t is = record { tells = λ y u same. let no : test.Key m ks ≡ test.Constraint y u = sym is ∙ same in cc }

pub constraint_tells : (c : CatalogueData) (xs : List RelvarDependencies) (v : Typed) (ns : List ℕ) → ((n : ℕ) → ReadsRelvar c.origins v n → Contains ns n) → All (TellsAll c v xs) ns → (m : ℕ) → TellsAll c v xs m
constraint_tells c xs v ns reads all m = ⊎_elim
    (λ there. All-contains (TellsAll c v xs) ns m all there)
    (λ none. record { tells = λ x at. tells_unread c m v x (λ read. none (reads m read)) })
    (among m ns)

test_stays : (c : CatalogueData) (xs ys : List RelvarDependencies) → AreAllGrown xs ys → (t : Test) → TellsTest c xs t → TellsTest c ys t
test_stays c xs ys more t is = record { tells = λ y u same m. all_tell c u xs ys more m (is.tells y u same m) }

pub tests_further : (c : CatalogueData) (ts : List Test) (i : ℕ) (t : Test) (xs ys : List RelvarDependencies) → i < length ts → t ≡ get_or ts i t → AreAllGrown xs ys → TellsTest c ys t → All (TellsTest c xs) (take i ts) → All (TellsTest c ys) (take (i + 1) ts)
tests_further c ts i t xs ys lt at more here all =
    All-more (TellsTest c ys) ts i t lt (All-weaker (TellsTest c xs) (TellsTest c ys) (test_stays c xs ys more) (take i ts) all) (subst (TellsTest c ys) at here)

pub are_dependencies : (c : CatalogueData) (xs : List RelvarDependencies) → All (TellsTest c xs) c.tests → AreDependencies c xs
are_dependencies c xs all m x at y u there = ((All-contains (TellsTest c xs) c.tests (test.Constraint y u) all there).tells y u refl m).tells x at

constraint_same : (x y : List ℕ) (u v : Typed) → test.Constraint x u ≡ test.Constraint y v → u ≡ v
constraint_same x y u v e = cc

pub tells_test : (c : CatalogueData) (xs : List RelvarDependencies) (t : Test) (x : List ℕ) (u v : Typed) → t ≡ test.Constraint x u → v ≡ u → ((m : ℕ) → TellsAll c v xs m) → TellsTest c xs t
tells_test c xs t x u v is tree all = record { tells = λ y w same m. subst (λ (k : Typed). TellsAll c k xs m) (tree ∙ constraint_same x y u w (sym is ∙ same)) (all m) }

-- the expression of a constraint, and what it reads
pub is_closed : (c : CatalogueData) (place : ℕ) (t : Test) (x : List ℕ) (u : Typed) → slice_get c.tests place ≡ Some t → t ≡ test.Constraint x u → (o : Option Expression) (e : Expression) → o ≡ Some e
    → MatchOption o (constraint_at c place ≡ None) (IsConstraint c (constraint_at c place)) → IsClosedExpression c u kind.Boolean e
is_closed c place t x u stands is o e some h =
    let tree : constraint_at c place ≡ Some u = ap constraint_of (stands ∙ ap Some is) in
    subst (λ k. IsConstraint c k e) tree (subst (λ q. MatchOption q (constraint_at c place ≡ None) (IsConstraint c (constraint_at c place))) some h)

pub all_read : (c : CatalogueData) (e : Expression) → HasAllUnder c e → Defined c → (ns : List ℕ) → ns ≡ reads e → (n : ℕ) → ReadsRelvar c.origins e.tree n → Contains ns n
all_read c e under defined ns same n read = subst (λ (ms : List ℕ). Contains ms n) (sym same) (((reads_those c (all_typed c defined) e under).members n).1 read)

-- ---- what an addition asks
pub suited : (c : CatalogueData) (xs : List RelvarDependencies) (m : ℕ) (x : RelvarDependencies) → AreDependencies c xs → slice_get xs m ≡ Some x → x.is_suited ≡ true → HasKey c.tests m → IsSuited c m
suited c xs m x dependencies at is key = record { judge = judges; key = key.key; has_key = key.there }
  where
    judges : AllJudgeGrowth c m
    judges (test.Key n ks) there = tt
    judges (test.Constraint y u) there = (dependencies m x at y u there).judges is
