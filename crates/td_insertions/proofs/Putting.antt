-- A step of an INSERT that put in as many tuples as are written out put in each of them.
use Rattle.std.proofs.Common.{◌≡◌, ℕ, zero, suc, if◌then◌else◌, eq-eqb, List, [], ◌∷◌, length, Option, None, Some, Result, Ok, Err, refl, ap, sym, ◌∙◌, subst, arith}
use Rattle.std.specs.FinSet as set
use Rattle.std.specs.List.{Contains}
use Rattle.td_values.specs.Rows.{AreRows, RowsData}
use Rattle.td_syntax.specs.declared.script.Statement.{Statement}
use Rattle.td_relations.specs.Deltas.{DeltaData}
use Rattle.td_relations.specs.Sets.{IsRelation, body}
use Rattle.td_algebra.specs.Functions.{union_of}
use Rattle.td_algebra.specs.Raising.{and_then}
use Rattle.td_algebra.specs.declared.errors.Stop.{Stop}
use Rattle.td_headings.specs.Statements.{TypesStatement}
use Rattle.td_headings.specs.declared.defined.Test.{Test}
use Rattle.td_headings.specs.declared.statement.TypedStatement.{TypedStatement}
use Rattle.td_meaning.specs.Mean.{Relvars}
use Rattle.td_semantics.specs.Databases.{DatabaseData, IsDatabase, Stored, at_place, stored_relvars}
use Rattle.td_semantics.specs.Differences.{AreDifferences, ChangesBy}
use Rattle.td_semantics.specs.Given.{Given, gives, nothing_given, or_old, or_stored, with_given}
use Rattle.td_semantics.specs.Sources.{given_over}
use Rattle.td_semantics.specs.Steps.{IsRead, Steps, TellsTest, done, raised, refused, unread, with_all}
use Rattle.td_semantics.specs.declared.outcome.Outcome.{Outcome}
use Rattle.td_semantics.specs.declared.outcome.Outcome.TheVariants as outcome
use Rattle.td_eval.proofs.United.{United}
use Rattle.td_insertions.specs.Insertions.{IsInsertion, PutsInAll}
use Rattle.td_insertions.specs.ForProofs.Written.{IsWritten}
use Rattle.td_insertions.proofs.Meaning.{Added, added_listed, assigned, base, given_is, insertion, ok_same, there, united_ok}
use Rattle.td_insertions.proofs.Readings.{one_reading}
use Rattle.td_insertions.proofs.Unions.{all_new}

-- ---- what a relvar has with what it is given
pub looked_up : (g : Given) (xs : Stored) (m : ℕ) (r : RowsData) → stored_relvars xs m ≡ Ok r → stored_relvars (with_given g xs) m ≡ or_old (g m) (Ok r)
looked_up g [] m r h = cc
looked_up g (None ∷ xs) zero r h = cc
looked_up g (Some q ∷ xs) zero r h = by (g zero)
  where
    by : (o : Option RowsData) → at_place (Some (or_stored o (Some q))) ≡ or_old o (Ok r)
    by None = h
    by (Some p) = refl
looked_up g (x ∷ xs) (suc m) r h = looked_up (λ k. g (suc k)) xs m r h

given_it : (n : ℕ) (u : RowsData) → gives n u nothing_given n ≡ Some u
given_it n u = ap (λ b. if b then Some u else None) (eq-eqb n n refl)

gives_one : (n : ℕ) (g : Given) (m : Result RowsData Stop) → and_then m (λ u. Ok (gives n u nothing_given)) ≡ Ok g → (u : RowsData) × (m ≡ Ok u) × (gives n u nothing_given ≡ g)
gives_one n g (Ok u) h = (u, refl, ok_same (gives n u nothing_given) g h)
gives_one n g (Err e) h = cc

-- ---- a statement that was done
module _ (d : DatabaseData) (k : ℕ) (text : List ℕ) (x : TypedStatement) (read : IsRead d.catalogue k text x) where
  told_none : (t : Test) (o : Option Stop) → TellsTest d.catalogue t o outcome.Done → ⊥
  told_none t None tells = tells
  told_none t (Some e) tells = tells

  abbrev IsDone : DatabaseData → Type 0
  IsDone e = (g : Given) × (given_over d.catalogue (stored_relvars d.stored) x ≡ Ok g) × (e ≡ with_all d g)

  was_done : (e : DatabaseData) (o : Outcome) → o ≡ outcome.Done → Steps d k text o e → IsDone e
  was_done e o is (unread h) = cc
  was_done e o is (raised p h) = cc
  was_done e o is (refused {t = t} {o = q} p h i j) = absurd (told_none t q (subst (TellsTest d.catalogue t q) is j))
  was_done e o is (done {x = y} {g = g} p h i) = (g, one_reading d.catalogue (stored_relvars d.stored) k text x y read p ∙ h, refl)

  module _ (e : DatabaseData) (n many : ℕ) (w : IsWritten x n many) (z : DeltaData) (is : IsDatabase d) (did : IsDone e) (c : ChangesBy (stored_relvars d.stored) (stored_relvars e.stored) n z) where
    abbrev typed : (s : Statement) × TypesStatement d.catalogue s x
    typed = (read.statement, read.types)

    abbrev old : Relvars
    old = stored_relvars d.stored

    abbrev before : RowsData
    before = c.before

    abbrev AddedThen : Result RowsData Stop
    AddedThen = Added d.catalogue x n many is.defined typed w old

    one_given : (u : RowsData) × (United before AddedThen ≡ Ok u) × (gives n u nothing_given ≡ did.0)
    one_given = gives_one n did.0 (United before AddedThen) (sym (given_is d.catalogue x n many is.defined typed w old before c.was) ∙ did.1)

    abbrev new : RowsData
    new = one_given.0

    after_is : c.after ≡ new
    after_is = ok_same c.after new
        (sym c.is
        ∙ ap (λ (f : DatabaseData). stored_relvars f.stored n) did.2
        ∙ looked_up did.0 d.stored n before c.was
        ∙ ap (λ (g : Given). or_old (g n) (Ok before)) (sym one_given.2)
        ∙ ap (λ o. or_old o (Ok before)) (given_it n new))

    united : (p : RowsData) × (AddedThen ≡ Ok p) × (before.heading ≡ p.heading) × (union_of before p ≡ new)
    united = united_ok before new AddedThen one_given.1

    abbrev written : RowsData
    written = united.0

    put_in : IsRelation before.heading (set.difference (body (union_of before written)) (body before)) z.inserted
    put_in = subst (λ (r : RowsData). IsRelation before.heading (set.difference (body r) (body before)) z.inserted) (after_is ∙ sym united.3) c.difference.inserted

    all_put_in : many ≡ length z.inserted.tuples → body z.inserted ≡ body written
    all_put_in as_many =
        let l = added_listed d.catalogue x n many is.defined typed w old written united.1 in
        all_new before written z.inserted l.0 l.2 put_in (omega (arith, l.1, as_many))

    heading_is : z.inserted.heading ≡ (assigned d.catalogue x n many is.defined typed w).1.relvar.value
    heading_is =
        let s = is.stored n (assigned d.catalogue x n many is.defined typed w).1.relvar (base d.catalogue x n many is.defined typed w) (there d.catalogue x n many is.defined typed w) in
        put_in.heading ∙ ap (λ (r : RowsData). r.heading) (ok_same before s.0 (sym c.was ∙ s.1)) ∙ s.2.heading

    pub puts_written : many ≡ length z.inserted.tuples → AreRows z.inserted.heading z.inserted.tuples → IsInsertion d.catalogue x n z.inserted
    puts_written as_many rows =
        insertion d.catalogue x n many is.defined typed w old written z.inserted united.1
        (sym united.2 ∙ sym put_in.heading)
        (sym (all_put_in as_many))
        heading_is rows

-- ---- by the only change
module _ (d e : DatabaseData) (k : ℕ) (text : List ℕ) (x : TypedStatement) (is : IsDatabase d) (read : IsRead d.catalogue k text x) (steps : Steps d k text outcome.Done e) (changes : List (ℕ × DeltaData)) (differ : AreDifferences (stored_relvars d.stored) (stored_relvars e.stored) changes) (change : ℕ × DeltaData) (one : changes ≡ change ∷ []) where
  pub puts_all : (n many : ℕ) → IsWritten x n many → n ≡ change.0 → many ≡ length change.1.inserted.tuples → AreRows change.1.inserted.heading change.1.inserted.tuples → PutsInAll d.catalogue x changes
  puts_all n many w same as_many rows =
      let here : Contains changes change = subst (λ (l : List (ℕ × DeltaData)). Contains l change) (sym one) (0, omega arith, refl) in
      record {
        relvar = change.0;
        delta = change.1;
        one = one;
        is = puts_written d k text x read e change.0 many (subst (λ m. IsWritten x m many) same w) change.1 is (was_done d k text x read e outcome.Done refl steps) (differ.only change here).change as_many rows;
      }
