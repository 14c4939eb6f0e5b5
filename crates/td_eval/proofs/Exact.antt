-- The exact change from a relation to what is left of it with other tuples.
use Rattle.std.proofs.Common.{◌≡◌, Bool, true, false, not, ◌&&◌, ◌||◌, refl, sym, ap, ◌∙◌, true≢false}
use Rattle.std.specs.FinSet as set
use Rattle.td_values.specs.Data.{Attrs}
use Rattle.td_values.specs.Order.{attrs_order}
use Rattle.td_values.specs.Proving.Total.{attrs_order_total, attrs_tied}
use Rattle.td_values.specs.Rows.{RowsData}
use Rattle.td_relations.specs.Deltas.{DeltaData, IsDifference}
use Rattle.td_relations.specs.Sets.{Has, IsRelation, TupleSet, body}
use Rattle.td_relations.proofs.Members.{relation_of_is}
use Rattle.td_algebra.specs.Functions.{minus_of, union_of}

-- ---- of one tuple: whether the relation has it, whether it goes, and whether it comes
comes : (r g s : Bool) → (s && not r) ≡ (((r && not g) || s) && not r)
comes true true true = refl
comes true false true = refl
comes true true false = refl
comes true false false = refl
comes false g true = refl
comes false g false = refl

goes : (r g s : Bool) → (g ≡ true → r ≡ true) → (g && not s) ≡ (r && not ((r && not g) || s))
goes true true true h = refl
goes true true false h = refl
goes true false true h = refl
goes true false false h = refl
goes false true s h = absurd (true≢false (sym (h refl)))
goes false false s h = refl

none_comes : (r g : Bool) → false ≡ ((r && not g) && not r)
none_comes true true = refl
none_comes true false = refl
none_comes false g = refl

all_go : (r g : Bool) → (g ≡ true → r ≡ true) → g ≡ (r && not (r && not g))
all_go true true h = refl
all_go true false h = refl
all_go false true h = absurd (true≢false (sym (h refl)))
all_go false false h = refl

module _ (r g : RowsData) (within : (t : Attrs) → Has g t → Has r t) where
  abbrev rest : TupleSet
  rest = set.difference (body r) (body g)

  rest_has : (q : Attrs) → set.contains rest q ≡ (set.contains (body r) q && not (set.contains (body g) q))
  rest_has q = set.contains-difference attrs_order_total (body r) (body g) q

  body_rest : body (minus_of r g) ≡ rest
  unfolding minus_of
  body_rest = (relation_of_is r.heading rest).members

  pub less_differs : (x : DeltaData) → IsRelation r.heading set.empty x.inserted → IsRelation r.heading (body g) x.deleted → IsDifference r (minus_of r g) x
  less_differs x ins del = record {
    inserted = record {
      heading = ins.heading;
      members = ins.members ∙ set.same_set attrs_order_total attrs_tied set.empty (set.difference (body (minus_of r g)) (body r)) (λ q.
          set.contains-empty attrs_order q ∙ none_comes (set.contains (body r) q) (set.contains (body g) q)
          ∙ ap (λ b. b && not (set.contains (body r) q)) (sym (ap (λ w. set.contains w q) body_rest ∙ rest_has q))
          ∙ sym (set.contains-difference attrs_order_total (body (minus_of r g)) (body r) q));
      ascending = ins.ascending;
    };
    deleted = record {
      heading = del.heading;
      members = del.members ∙ set.same_set attrs_order_total attrs_tied (body g) (set.difference (body r) (body (minus_of r g))) (λ q.
          all_go (set.contains (body r) q) (set.contains (body g) q) (within q)
          ∙ ap (λ b. set.contains (body r) q && not b) (sym (ap (λ w. set.contains w q) body_rest ∙ rest_has q))
          ∙ sym (set.contains-difference attrs_order_total (body r) (body (minus_of r g)) q));
      ascending = del.ascending;
    };
  }

  module _ (s : RowsData) where
    abbrev new : RowsData
    new = union_of (minus_of r g) s

    new_has : (q : Attrs) → set.contains (body new) q ≡ ((set.contains (body r) q && not (set.contains (body g) q)) || set.contains (body s) q)
    unfolding union_of
    new_has q =
        ap (λ w. set.contains w q) (relation_of_is (minus_of r g).heading (set.union (body (minus_of r g)) (body s))).members
        ∙ set.contains-union attrs_order_total (body (minus_of r g)) (body s) q
        ∙ ap (λ b. b || set.contains (body s) q) (ap (λ w. set.contains w q) body_rest ∙ rest_has q)

    pub replaced_differs : (x : DeltaData) → IsRelation r.heading (set.difference (body s) (body r)) x.inserted → IsRelation r.heading (set.difference (body g) (body s)) x.deleted → IsDifference r new x
    replaced_differs x ins del = record {
      inserted = record {
        heading = ins.heading;
        members = ins.members ∙ set.same_set attrs_order_total attrs_tied (set.difference (body s) (body r)) (set.difference (body new) (body r)) (λ q.
            set.contains-difference attrs_order_total (body s) (body r) q
            ∙ comes (set.contains (body r) q) (set.contains (body g) q) (set.contains (body s) q)
            ∙ ap (λ b. b && not (set.contains (body r) q)) (sym (new_has q))
            ∙ sym (set.contains-difference attrs_order_total (body new) (body r) q));
        ascending = ins.ascending;
      };
      deleted = record {
        heading = del.heading;
        members = del.members ∙ set.same_set attrs_order_total attrs_tied (set.difference (body g) (body s)) (set.difference (body r) (body new)) (λ q.
            set.contains-difference attrs_order_total (body g) (body s) q
            ∙ goes (set.contains (body r) q) (set.contains (body g) q) (set.contains (body s) q) (within q)
            ∙ ap (λ b. set.contains (body r) q && not b) (sym (new_has q))
            ∙ sym (set.contains-difference attrs_order_total (body r) (body new) q));
        ascending = del.ascending;
      };
    }
