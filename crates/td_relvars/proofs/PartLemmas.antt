-- Copies of what some relvars have: where one stands, and a change that is made in one after the other.
use Rattle.std.proofs.Common.{◌≡◌, ◌≤◌, ◌<◌, ◌==◌, ℕ, zero, suc, Bool, true, false, eq-eqb, ne_eqb, List, [], ◌∷◌, length, get_or, map, Option, None, Some, option_map, slice_get, slice_set, Ok, refl, ap, sym, ◌∙◌, subst, arith, if◌then◌else◌, ⊎_elim}
use Rattle.std.specs.List.{All, Contains, cons_option, find}
use Rattle.std.specs.Option.{option_flatten}
use Rattle.std.proofs.lemmas.Bool.{cases_eq}
use Rattle.td_values.specs.Headings.{Header}
use Rattle.td_values.specs.Rows.{RowsData}
use Rattle.td_relations.specs.Deltas.{DeltaData, inverse_of}
use Rattle.td_bases.specs.Bases.{BaseData}
use Rattle.td_syntax.specs.declared.tree.Named.{Named}
use Rattle.td_algebra.proofs.Runs.{same_at}
use Rattle.td_type_soundness.specs.Meanings.{GivesRelation, IsRelationOver}
use Rattle.td_typing.proofs.KindLemmas.{some_same}
use Rattle.td_headings.specs.Catalogues.{CatalogueData}
use Rattle.td_semantics.specs.Databases.{Belongs, DatabaseData, IsDatabase, Stored, at_place, stored_relvars}
use Rattle.td_semantics.specs.Trees.{AreBases}
use Rattle.td_relvars.specs.Changed.{change, changed, undone}
use Rattle.td_relvars.specs.Keys.{key_at}
use Rattle.td_relvars.specs.ForProofs.Kept.{copied_keys, copies_of}
use Rattle.td_relvars.specs.Parts.{AreCopies, Copies, FitsPart, change_part, changed_if, copy_of, or_there, with_copies, copy_at, part_of, undone_part}
use Rattle.td_relvars.proofs.Kept.{belongs}
use Rattle.td_relvars.proofs.Places.{change_other, change_there, ok_same}
use Rattle.td_relvars.proofs.Stores.{bases, looked_up}

-- ---- members of lists
pub first_in : {A : Type 0} (x : A) (xs : List A) → Contains (x ∷ xs) x
first_in x xs = (0, omega arith, refl)

pub rest_in : {A : Type 0} (x y : A) (xs : List A) → Contains xs y → Contains (x ∷ xs) y
rest_in x y xs h = (suc h.0, (let lt = h.1 in omega (arith, lt)), h.2)

pub none_in : {A P : Type 0} (y : A) → Contains [] y → P
none_in y h = absurd (let lt = h.1 in omega (arith, lt))

pub in_cases : {A P : Type 0} (x y : A) (xs : List A) → Contains (x ∷ xs) y → (x ≡ y → P) → (Contains xs y → P) → P
in_cases x y xs (zero, lt, is) here there = here is
in_cases x y xs (suc k, lt, is) here there = there (k, omega (arith, lt), is)

pub mapped_in : {A B : Type 0} (f : A → B) (x : A) (xs : List A) → Contains xs x → Contains (map f xs) (f x)
mapped_in f x [] h = none_in x h
mapped_in f x (y ∷ xs) h = in_cases y x xs h
    (λ same. subst (λ z. Contains (map f (y ∷ xs)) (f z)) same (first_in (f y) (map f xs)))
    (λ there. rest_in (f y) (f x) (map f xs) (mapped_in f x xs there))

pub mapped_from : {A B : Type 0} (f : A → B) (y : B) (xs : List A) → Contains (map f xs) y → (x : A) × Contains xs x × (f x ≡ y)
mapped_from f y [] h = none_in y h
mapped_from f y (x ∷ xs) h = in_cases (f x) y (map f xs) h
    (λ same. (x, first_in x xs, same))
    (λ there. let from = mapped_from f y xs there in (from.0, rest_in x from.0 xs from.1, from.2))

-- ---- where a copy stands
module _ (p : ℕ × RowsData) (ps : Copies) (n : ℕ) where
  abbrev at_first : Bool → Option RowsData
  at_first b = option_map (λ (q : ℕ × RowsData). q.1) (if b then Some p else find (λ (q : ℕ × RowsData). q.0 == n) ps)

  is_first : p.0 ≡ n → copy_at (p ∷ ps) n ≡ Some p.1
  is_first same = ap at_first (eq-eqb p.0 n same)

  is_later : (p.0 ≡ n → ⊥) → copy_at (p ∷ ps) n ≡ copy_at ps n
  is_later apart = ap at_first (ne_eqb p.0 n apart)

pub part_has : (ps : Copies) (n : ℕ) (r : RowsData) → copy_at ps n ≡ Some r → Contains ps (n, r)
part_has [] n r h = cc
part_has (p ∷ ps) n r h = ⊎_elim
    (λ same.
    let is : p.1 ≡ r = some_same p.1 r (sym (is_first p ps n same) ∙ h) in
    subst (λ (q : ℕ × RowsData). Contains (p ∷ ps) q) (λ i. (same i, is i)) (first_in p ps))
    (λ apart. rest_in p (n, r) ps (part_has ps n r (sym (is_later p ps n apart) ∙ h)))
    (cases_eq p.0 n)

pub has_none : (ps : Copies) (n : ℕ) (r : RowsData) → copy_at ps n ≡ None → Contains ps (n, r) → ⊥
has_none [] n r h there = none_in (n, r) there
has_none (p ∷ ps) n r h there = ⊎_elim
    (λ same. let no : Some p.1 ≡ None = sym (is_first p ps n same) ∙ h in cc)
    (λ apart. in_cases p (n, r) ps there
    (λ is. apart (ap (λ (q : ℕ × RowsData). q.0) is))
    (λ later. has_none ps n r (sym (is_later p ps n apart) ∙ h) later))
    (cases_eq p.0 n)

-- ---- copies of what is stored
flat : (o : Option (Option RowsData)) (r : RowsData) → at_place o ≡ Ok r → option_flatten o ≡ Some r
flat None r h = cc
flat (Some None) r h = cc
flat (Some (Some q)) r h = ap Some (ok_same q r h)

one_copied : (stored : Stored) (n : ℕ) (ps : Copies) → AreCopies ps stored → (o : Option RowsData) → option_flatten (slice_get stored n) ≡ o → AreCopies (cons_option (copy_of n o) ps) stored
one_copied stored n ps are None e = are
one_copied stored n ps are (Some r) e = λ p h. in_cases (n, r) p ps h
    (λ same. subst (λ (q : ℕ × RowsData). stored_relvars stored q.0 ≡ Ok q.1) same (looked_up (slice_get stored n) r e))
    (λ there. are p there)

pub are_copies : (stored : Stored) (ns : List ℕ) → AreCopies (part_of stored ns) stored
are_copies stored [] = λ p h. none_in p h
are_copies stored (n ∷ ns) = one_copied stored n (part_of stored ns) (are_copies stored ns) (option_flatten (slice_get stored n)) refl

later_copied : (n : ℕ) (o : Option RowsData) (ps : Copies) (p : ℕ × RowsData) → Contains ps p → Contains (cons_option (copy_of n o) ps) p
later_copied n None ps p h = h
later_copied n (Some r) ps p h = rest_in (n, r) p ps h

now_copied : (n : ℕ) (o : Option RowsData) (ps : Copies) (r : RowsData) → o ≡ Some r → Contains (cons_option (copy_of n o) ps) (n, r)
now_copied n o ps r e = subst (λ (z : Option RowsData). Contains (cons_option (copy_of n z) ps) (n, r)) (sym e) (first_in (n, r) ps)

pub is_copied : (stored : Stored) (ns : List ℕ) (m : ℕ) (r : RowsData) → Contains ns m → stored_relvars stored m ≡ Ok r → Contains (part_of stored ns) (m, r)
is_copied stored [] m r h has = none_in m h
is_copied stored (n ∷ ns) m r h has = in_cases n m ns h
    (λ same.
    let here = flat (slice_get stored n) r (ap (stored_relvars stored) same ∙ has) in
    subst (λ (k : ℕ). Contains (part_of stored (n ∷ ns)) (k, r)) same (now_copied n (option_flatten (slice_get stored n)) (part_of stored ns) r here))
    (λ there. later_copied n (option_flatten (slice_get stored n)) (part_of stored ns) (m, r) (is_copied stored ns m r there has))

-- copies of what a database has belong to it
module _ (d : DatabaseData) (is : IsDatabase d) (ps : Copies) (are : AreCopies ps d.stored) where
  pub all_belong : All (λ (p : ℕ × RowsData). Belongs d.catalogue p.0 p.1) ps
  all_belong k e lt =
      let p = get_or ps k e in
      belongs d is p.0 p.1 (are p (k, lt, same_at ps k p e lt))

-- ---- a change in each copy of its relvar
module _ (n : ℕ) (x : DeltaData) where
  abbrev with_it : Bool → RowsData → RowsData
  with_it b r = if b then changed r x else r

  copy_changed : (stored : Stored) (p : ℕ × RowsData) → stored_relvars stored p.0 ≡ Ok p.1 → stored_relvars (change n x stored) p.0 ≡ Ok (changed_if n x p).1
  copy_changed stored p is = ⊎_elim
      (λ same.
      let there = subst (λ (k : ℕ). stored_relvars stored k ≡ Ok p.1) same is in
      let now = change_there n x stored p.1 there in
      subst (λ (k : ℕ). stored_relvars (change n x stored) k ≡ Ok (changed p.1 x)) (sym same) now ∙ ap (λ b. Ok (with_it b p.1)) (sym (eq-eqb p.0 n same)))
      (λ apart. change_other n p.0 x stored (λ e. apart (sym e)) ∙ is ∙ ap (λ b. Ok (with_it b p.1)) (sym (ne_eqb p.0 n apart)))
      (cases_eq p.0 n)

  pub copies_changed : (ps : Copies) (stored : Stored) → AreCopies ps stored → AreCopies (change_part n x ps) (change n x stored)
  copies_changed ps stored are q h =
      let from = mapped_from (changed_if n x) q ps h in
      subst (λ (z : ℕ × RowsData). stored_relvars (change n x stored) z.0 ≡ Ok z.1) from.2 (copy_changed stored from.0 (are from.0 from.1))

  pub still_copied : (ps : Copies) (m : ℕ) (r : RowsData) → Contains ps (m, r) → Contains (change_part n x ps) (m, (changed_if n x (m, r)).1)
  still_copied ps m r h = mapped_in (changed_if n x) (m, r) ps h

  kept_heading : (r : RowsData) (b : Bool) → (with_it b r).heading ≡ r.heading
  kept_heading r true = refl
  kept_heading r false = refl

  pub still_fits : (ps : Copies) (d : ℕ × DeltaData) → FitsPart ps d → FitsPart (change_part n x ps) d
  still_fits ps d fits r h =
      let from = mapped_from (changed_if n x) (d.0, r) ps h in
      let p = from.0 in
      let there : Contains ps (d.0, p.1) = subst (λ (k : ℕ). Contains ps (k, p.1)) (ap (λ (z : ℕ × RowsData). z.0) from.2) from.1 in
      fits p.1 there ∙ sym (kept_heading p.1 (p.0 == n)) ∙ ap (λ (z : ℕ × RowsData). z.1.heading) from.2

  -- one after the other
  abbrev pub changed_until : ℕ → Copies → Copies
  changed_until zero ps = ps
  changed_until (suc i) [] = []
  changed_until (suc i) (p ∷ ps) = changed_if n x p ∷ changed_until i ps

  pub until_many : (i : ℕ) (ps : Copies) → length (changed_until i ps) ≡ length ps
  until_many zero ps = refl
  until_many (suc i) [] = refl
  until_many (suc i) (p ∷ ps) = ap suc (until_many i ps)

  pub until_there : (i : ℕ) (ps : Copies) (d : ℕ × RowsData) → get_or (changed_until i ps) i d ≡ get_or ps i d
  until_there zero ps d = refl
  until_there (suc i) [] d = refl
  until_there (suc i) (p ∷ ps) d = until_there i ps d

  pub until_next : (i : ℕ) (ps : Copies) (d : ℕ × RowsData) → i < length ps → slice_set (changed_until i ps) i (changed_if n x (get_or ps i d)) ≡ changed_until (suc i) ps
  until_next i [] d lt = absurd (omega (arith, lt))
  until_next zero (p ∷ ps) d lt = refl
  until_next (suc i) (p ∷ ps) d lt = ap (λ (qs : Copies). changed_if n x p ∷ qs) (until_next i ps d (omega (arith, lt)))

  pub until_all : (i : ℕ) (ps : Copies) → length ps ≤ i → changed_until i ps ≡ change_part n x ps
  until_all zero [] le = refl
  until_all (suc i) [] le = refl
  until_all zero (p ∷ ps) le = absurd (omega (arith, le))
  until_all (suc i) (p ∷ ps) le = ap (λ (qs : Copies). changed_if n x p ∷ qs) (until_all i ps (omega (arith, le)))

  -- the copy that comes next
  pub next_fits : (i : ℕ) (ps : Copies) (d : DeltaData) → FitsPart ps (n, d) → (q : ℕ × RowsData) → i < length ps → q ≡ get_or (changed_until i ps) i q → q.0 ≡ n → d.inserted.heading ≡ q.1.heading
  next_fits i ps d fits q lt at same =
      fits q.1 (subst (λ (k : ℕ). Contains ps (k, q.1)) same (i, lt, sym (at ∙ until_there i ps q)))

-- ---- changes taken back
pub copies_undone : (ds : List (ℕ × DeltaData)) (ps : Copies) (stored : Stored) → AreCopies ps stored → AreCopies (undone_part ds ps) (undone ds stored)
copies_undone [] ps stored are = are
copies_undone (d ∷ ds) ps stored are =
    copies_undone ds (change_part d.0 (inverse_of d.1) ps) (change d.0 (inverse_of d.1) stored) (copies_changed d.0 (inverse_of d.1) ps stored are)

pub still_there : (ds : List (ℕ × DeltaData)) (ps : Copies) (n : ℕ) (r : RowsData) → Contains ps (n, r) → (q : RowsData) × Contains (undone_part ds ps) (n, q)
still_there [] ps n r h = (r, h)
still_there (d ∷ ds) ps n r h =
    let x = inverse_of d.1 in
    still_there ds (change_part d.0 x ps) n (changed_if d.0 x (n, r)).1 (still_copied d.0 x ps n r h)

-- ---- what is seen over the copies
module _ (d : DatabaseData) (is : IsDatabase d) (ps : Copies) (all : All (λ (p : ℕ × RowsData). Belongs d.catalogue p.0 p.1) ps) where
  own : (n : ℕ) (r : RowsData) → Contains ps (n, r) → Belongs d.catalogue n r
  own n r h = subst (λ (p : ℕ × RowsData). Belongs d.catalogue p.0 p.1) h.2 (all h.0 (n, r) h.1)

  pub bases_over : AreBases d.catalogue (with_copies ps (stored_relvars d.stored))
  bases_over n v base there = by (copy_at ps n) refl
    where
      by : (o : Option RowsData) → copy_at ps n ≡ o → GivesRelation d.catalogue.schema v.value (or_there o (stored_relvars d.stored n))
      by (Some r) h =
          let b = own n r (part_has ps n r h) in
          subst (λ (w : Named Header). IsRelationOver d.catalogue.schema w.value r) (some_same b.relvar v (sym b.there ∙ there)) b.relation
      by None h = bases d is n v base there

-- ---- keys of copies
module _ (c : CatalogueData) (p : ℕ × BaseData) (ps : List (ℕ × BaseData)) where
  abbrev Theirs : List (ℕ × BaseData) → Type 0
  Theirs qs = copied_keys qs ≡ map (λ (q : ℕ × RowsData). key_at c q.0) (copies_of qs)

  pub first_theirs : Theirs (p ∷ ps) → p.1.key ≡ key_at c p.0
  first_theirs e = cc

  pub other_theirs : Theirs (p ∷ ps) → Theirs ps
  other_theirs e = cc
