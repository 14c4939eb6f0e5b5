-- Changes made one after the other: what holds of those that are left.
use Rattle.std.proofs.Common.{◌≡◌, ⊎_elim, inl, inr, ℕ, length, drop, get_or, ◌<◌, ◌+◌, ◌∷◌, Result, Ok, Err, OnErr, refl, ap, sym, ◌∙◌, subst}
use Rattle.std.specs.List.{Contains}
use Rattle.td_relations.specs.Deltas.{DeltaData}
use Rattle.td_headings.specs.Catalogues.{CatalogueData}
use Rattle.td_semantics.specs.Databases.{Belongs, DatabaseData, stored_relvars}
use Rattle.td_relvars.specs.Changed.{CanChange, change, changed, inverses, redone}
use Rattle.td_relvars.proofs.Places.{change_other}
use Rattle.td_assign.specs.Redoing.{AreOnce, CanRedo, IsBetween}
use Rattle.td_assign.proofs.Differing.{left_at}
use Rattle.td_assign.proofs.Listed.{Changes, first_apart, first_there, named, others_stay, rest_once, rest_there}

-- those before the rest are made, and each of the rest waits
pub record Made (old : DatabaseData) (all rest : Changes) (d : DatabaseData) : Type 0 where
  pub same : d.catalogue ≡ old.catalogue
  pub left : redone rest d.stored ≡ redone all old.stored
  pub once : AreOnce rest
  pub waits : (p : ℕ × DeltaData) → Contains rest p → stored_relvars d.stored p.0 ≡ stored_relvars old.stored p.0
  pub can : CanRedo old rest

pub none_made : (old : DatabaseData) (all : Changes) → AreOnce all → CanRedo old all → Made old all all old
none_made old all once can = record { same = refl; left = refl; once = once; waits = λ p h. refl; can = can }

-- the next one, in a walk along the list
pub comes :
    (old d : DatabaseData) (all ds : Changes) (i : ℕ) (x : ℕ × DeltaData) → i < length ds → x ≡ get_or ds i x
    → Made old all (drop i ds) d → Made old all (x ∷ drop (i + 1) ds) d
comes old d all ds i x within at = subst (λ ys. Made old all ys d) (left_at ds i x within at)

pub comes_back :
    (old d : DatabaseData) (all ds : Changes) (i : ℕ) (x : ℕ × DeltaData) → i < length ds → x ≡ get_or ds i x
    → Made old all (inverses (drop i ds)) d → Made old all (inverses (x ∷ drop (i + 1) ds)) d
comes_back old d all ds i x within at = subst (λ ys. Made old all (inverses ys) d) (left_at ds i x within at)

module _
    (old : DatabaseData) (all rest : Changes) (p : ℕ × DeltaData) (d : DatabaseData)
    (m : Made old all (p ∷ rest) d) where
  pub can_next : CanChange d p.0 p.1
  can_next =
      let can = m.can p (first_there p rest) in
      record {
        before = can.before;
        has = m.waits p (first_there p rest) ∙ can.has;
        heading = can.heading;
        belongs = subst (λ (c : CatalogueData). Belongs c p.0 (changed can.before p.1)) (sym m.same) can.belongs;
      }

  pub one_made : (e : DatabaseData) → e ≡ record d { stored = change p.0 p.1 d.stored } → Made old all rest e
  one_made e is = subst (λ (z : DatabaseData). Made old all rest z) (sym is) (record {
    same = m.same;
    left = m.left;
    once = rest_once p rest m.once;
    waits =
        λ q h. change_other p.0 q.0 p.1 d.stored (first_apart p q rest m.once h) ∙ m.waits q (rest_there p q rest h);
    can = λ q h. m.can q (rest_there p q rest h);
  })

pub between :
    (old : DatabaseData) (all rest : Changes) (d : DatabaseData) → Made old all rest d
    → IsBetween old (redone all old.stored) d
between old all rest d m = record {
  catalogue = m.same;
  each = λ n. ⊎_elim
      (λ k. inl (m.waits (n, k.0) k.1))
      (λ never. inr (sym (others_stay rest d.stored n never) ∙ ap (λ s. stored_relvars s n) m.left))
      (named rest n);
}

-- what holds anyway holds where memory was wanting
pub anyway : {A E P : Type 0} (r : Result A E) → P → OnErr r P
anyway (Ok a) p = tt
anyway (Err e) p = p
