-- The differences that changes make, found one after the other.
use Rattle.std.proofs.Common.{◌≡◌, ℕ, suc, ◌+◌, ◌<◌, ◌==◌, Bool, true, false, if◌then◌else◌, eqb-true, eq-eqb, List, [], ◌∷◌, ◌++◌, length, drop, drop-cons, get_or, add-one, IsTrue, ◌↔◌, true≢false, IfOk, MatchOption, Option, None, Some, Result, Ok, Err, ⊎_elim, refl, ap, sym, ◌∙◌, subst, arith}
use Rattle.std.specs.FinSet as set
use Rattle.std.specs.List.{AllPairs, Contains}
use Rattle.std.proofs.lemmas.List.Elements.{Contains-append_left, Contains-get_or, Contains-push, Contains-push_cases}
use Rattle.std.proofs.lemmas.List.Quantifiers.{all_pairs_push}
use Rattle.std.proofs.lemmas.Bool.{eqb-false}
use Rattle.td_values.specs.Rows.{AreRows, RowsData}
use Rattle.td_relations.specs.Deltas.{DeltaData, IsDifference}
use Rattle.td_relations.specs.Sets.{body}
use Rattle.td_relations.proofs.Changes.{none_between, same_by_nothing}
use Rattle.td_meaning.specs.Mean.{Relvars}
use Rattle.td_typing.proofs.KindLemmas.{some_same}
use Rattle.td_semantics.specs.Given.{or_old, replaced}
use Rattle.td_assign.specs.ForProofs.Lists.{given_to}
use Rattle.td_semantics.specs.Differences.{AreDifferences, Differs}
use Rattle.td_assign.specs.ForProofs.Given.{AreDistinct, DiffersBy, Turns}
use Rattle.td_assign.specs.declared.changes.Change.{Change}

pub left_at : {A : Type 0} (all : List A) (i : ℕ) (x : A) → i < length all → x ≡ get_or all i x → drop i all ≡ x ∷ drop (i + 1) all
left_at all i x within at = drop-cons all i x within ∙ ap (λ y. y ∷ drop (suc i) all) (sym at) ∙ ap (λ (n : ℕ). x ∷ drop n all) (sym (add-one i))

-- what became of a target that is given r: it has r already, its difference is found, or it is still to be looked at
pub data Settled (old : Relvars) (ds : List (ℕ × DeltaData)) (rest : List Change) (n : ℕ) (r : RowsData) : Type 0 where
  has : old n ≡ Ok r → Settled old ds rest n r
  differs : (d : DeltaData) → Contains ds (n, d) → Settled old ds rest n r
  waits : given_to rest n ≡ Some r → Settled old ds rest n r

-- the differences of the changes before the rest are found
pub record Found (old : Relvars) (all rest : List Change) (ds : List (ℕ × DeltaData)) : Type 0 where
  pub only : (p : ℕ × DeltaData) → Contains ds p → (x : Change) × (given_to all x.target ≡ Some x.relation) × (x.target ≡ p.0) × DiffersBy old x p.1
  pub settled : (n : ℕ) (r : RowsData) → given_to all n ≡ Some r → Settled old ds rest n r
  pub among : (n : ℕ) (r : RowsData) → given_to rest n ≡ Some r → given_to all n ≡ Some r
  pub distinct : AreDistinct rest
  pub passed : (p : ℕ × DeltaData) → Contains ds p → given_to rest p.0 ≡ None
  pub once : AllPairs (λ (p q : ℕ × DeltaData). p.0 ≡ q.0 → ⊥) ds

some_none : {A P : Type 0} (a : A) → Some a ≡ None → P
some_none a h = cc

pub begun : (old : Relvars) (all : List Change) → AreDistinct all → Found old all all []
begun old all distinct = record {
  only = λ p there. absurd (omega (arith, there.1));
  settled = λ n r at. waits at;
  among = λ n r at. at;
  distinct = distinct;
  passed = λ p there. absurd (omega (arith, there.1));
  once = λ i j d before within. absurd (omega (arith, within));
}

module _ (old : Relvars) (all rest : List Change) (x : Change) (ds : List (ℕ × DeltaData)) (f : Found old all (x ∷ rest) ds) where
  here : given_to (x ∷ rest) x.target ≡ Some x.relation
  here = ap (λ b. if b then Some x.relation else given_to rest x.target) (eq-eqb x.target x.target refl)

  among_rest : (n : ℕ) (r : RowsData) → given_to rest n ≡ Some r → given_to all n ≡ Some r
  among_rest n r at = f.among n r (by (x.target == n) refl)
    where
      by : (b : Bool) → x.target == n ≡ b → (if b then Some x.relation else given_to rest n) ≡ Some r
      by true e = some_none r (sym at ∙ subst (λ m. given_to rest m ≡ None) (eqb-true x.target n e) f.distinct.0)
      by false e = at

  apart : (n : ℕ) → given_to (x ∷ rest) n ≡ None → (x.target ≡ n → ⊥) × (given_to rest n ≡ None)
  apart n h = by (x.target == n) refl h
    where
      by : (b : Bool) → x.target == n ≡ b → (if b then Some x.relation else given_to rest n) ≡ None → (x.target ≡ n → ⊥) × (given_to rest n ≡ None)
      by true e is = some_none x.relation is
      by false e is = (eqb-false x.target n e, is)

  -- one more is looked at: what holds of it, and of those that were found
  module _ (es : List (ℕ × DeltaData)) (kept : (p : ℕ × DeltaData) → Contains ds p → Contains es p) (one : Settled old es rest x.target x.relation) where
    settled_at : (n : ℕ) (r : RowsData) → given_to (x ∷ rest) n ≡ Some r → Settled old es rest n r
    settled_at n r at = by (x.target == n) refl at
      where
        by : (b : Bool) → x.target == n ≡ b → (if b then Some x.relation else given_to rest n) ≡ Some r → Settled old es rest n r
        by true e is = subst (λ m. Settled old es rest m r) (eqb-true x.target n e) (subst (Settled old es rest x.target) (some_same x.relation r is) one)
        by false e is = waits is

    now : (n : ℕ) (r : RowsData) → Settled old ds (x ∷ rest) n r → Settled old es rest n r
    now n r (has h) = has h
    now n r (differs d h) = differs d (kept (n, d) h)
    now n r (waits h) = settled_at n r h

  pub same : old x.target ≡ Ok x.relation → Found old all rest ds
  same is = record {
    only = f.only;
    settled = λ n r at. now ds (λ p h. h) (has is) n r (f.settled n r at);
    among = among_rest;
    distinct = f.distinct.1;
    passed = λ p there. (apart p.0 (f.passed p there)).1;
    once = f.once;
  }

  pub one_more : (d : DeltaData) → DiffersBy old x d → Found old all rest (ds ++ (x.target, d) ∷ [])
  one_more d by_ = record {
    only = λ p there. ⊎_elim (f.only p) (λ e. (x, f.among x.target x.relation here, ap (λ (q : ℕ × DeltaData). q.0) e, subst (λ (q : ℕ × DeltaData). DiffersBy old x q.1) e by_)) (Contains-push_cases ds (x.target, d) p there);
    settled = λ n r at. now (ds ++ (x.target, d) ∷ []) (λ p. Contains-append_left ds ((x.target, d) ∷ []) p) (differs d (Contains-push ds (x.target, d))) n r (f.settled n r at);
    among = among_rest;
    distinct = f.distinct.1;
    passed = λ p there. ⊎_elim (λ found. (apart p.0 (f.passed p found)).1) (λ e. subst (λ (q : ℕ × DeltaData). given_to rest q.0 ≡ None) e f.distinct.0) (Contains-push_cases ds (x.target, d) p there);
    once = all_pairs_push (λ (p q : ℕ × DeltaData). p.0 ≡ q.0 → ⊥) ds (x.target, d) f.once (λ k e lt. λ twice. (apart (get_or ds k e).0 (f.passed (get_or ds k e) (Contains-get_or ds k e lt))).0 (sym twice));
  }

  pub by_option : (o : Option DeltaData) (d : DeltaData) → o ≡ Some d → MatchOption o (old x.target ≡ Ok x.relation) (DiffersBy old x) → Found old all rest (ds ++ (x.target, d) ∷ [])
  by_option o d is h = one_more d (subst (λ q. MatchOption q (old x.target ≡ Ok x.relation) (DiffersBy old x)) is h)

  pub by_none : (o : Option DeltaData) → o ≡ None → MatchOption o (old x.target ≡ Ok x.relation) (DiffersBy old x) → Found old all rest ds
  by_none o is h = same (subst (λ q. MatchOption q (old x.target ≡ Ok x.relation) (DiffersBy old x)) is h)

-- at the end all are found
module _ (old : Relvars) (all : List Change) (ds : List (ℕ × DeltaData)) (f : Found old all [] ds) where
  differs_at : (p : ℕ × DeltaData) → Contains ds p → Differs old (replaced (given_to all) old) p.0 p.1
  differs_at p there =
      let k = f.only p there in
      let x = k.0 in
      let by_ = k.3 in
      subst (λ n. Differs old (replaced (given_to all) old) n p.1) k.2
      (record {
        change = record { before = by_.0; after = x.relation; was = by_.1; is = ap (λ o. or_old o (old x.target)) k.1; one_heading = by_.2.one_heading; was_rows = by_.2.was_rows; is_rows = by_.2.is_rows; difference = by_.2.difference };
        apart = by_.2.apart;
      })

  stays_at : (n : ℕ) (r : RowsData) → ((d : DeltaData) → Contains ds (n, d) → ⊥) → Settled old ds [] n r → Ok r ≡ old n
  stays_at n r never (has h) = sym h
  stays_at n r never (differs d h) = absurd (never d h)
  stays_at n r never (waits h) = cc

  stays : (n : ℕ) → ((d : DeltaData) → Contains ds (n, d) → ⊥) → replaced (given_to all) old n ≡ old n
  stays n never = by (given_to all n) refl
    where
      by : (o : Option RowsData) → given_to all n ≡ o → or_old o (old n) ≡ old n
      by None e = refl
      by (Some r) e = stays_at n r never (f.settled n r e)

  pub ended : AreDifferences old (replaced (given_to all) old) ds
  ended = record { once = f.once; only = differs_at; all = stays }

-- ---- one change
module _ (old new : RowsData) (d : DeltaData) (b : Bool) (same : old.heading ≡ new.heading) (is : IsDifference old new d) (empty : IsTrue b ↔ ((body d.inserted ≡ set.empty) × (body d.deleted ≡ set.empty))) where
  pub unturned : AreRows old.heading old.tuples → AreRows new.heading new.tuples → b ≡ true → old ≡ new
  unturned low up e = let none = empty.0 e in same_by_nothing old new d.deleted d.inserted same low.ascending up.ascending old.heading old.heading is.deleted is.inserted none.1 none.0

  pub turned : AreRows old.heading old.tuples → AreRows new.heading new.tuples → b ≡ false → Turns old new d
  turned low up e = record {
    one_heading = same;
    was_rows = low;
    is_rows = up;
    apart = λ p. true≢false (sym (empty.1 (is.inserted.members ∙ none_between new old (sym p), is.deleted.members ∙ none_between old new p)) ∙ e);
    difference = is;
  }

pub told : {E : Type 0} (old : Relvars) (x : Change) (before : RowsData) → old x.target ≡ Ok before → (m : Result (Option DeltaData) E) → IfOk m (λ o. MatchOption o (before ≡ x.relation) (Turns before x.relation)) → IfOk m (λ o. MatchOption o (old x.target ≡ Ok x.relation) (DiffersBy old x))
told old x before was (Ok None) h = was ∙ ap Ok h
told old x before was (Ok (Some d)) h = (before, was, h)
told old x before was (Err e) h = tt
