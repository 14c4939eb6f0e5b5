-- The closure, one middle at a time (Warshall).
use Rattle.std.proofs.Common.{◌↔◌, ℕ, Bool, IsTrue, length, get_or, arith, ◌≡◌, ◌⊎◌, inl, inr, List, [], ◌∷◌, ◌++◌, Option, None, Some, refl, sym, ap, ◌∙◌, subst}
use Rattle.std.specs.Cmp.{tied_itself}
use Rattle.std.specs.FinMap as by_name
use Rattle.std.specs.List.Sorted.{IsStrictlySortedBy}
use Rattle.std.specs.Ordering.{is_eq}
use Rattle.td_values.specs.Attributes.{attribute_of}
use Rattle.td_values.specs.Data.{Ty, Datum, Attrs}
use Rattle.td_values.specs.Headings.{Header}
use Rattle.td_values.specs.Order.{attrs_order, ty_order}
use Rattle.td_values.specs.Proving.Total.{ty_order_total, ty_tied}
use Rattle.td_values.proofs.Walks.{is_tied}
use Rattle.td_values.specs.Rows.{RowsData, AreRows}
use Rattle.td_relations.specs.Sets.{Has, IsRelationOf}
use Rattle.td_algebra.specs.Closures.{IsBinary, pair, HasPair, Linked, Closed, IsTransitive, Within, TcloseIsLeast}
use Rattle.td_algebra.specs.ForProofs.Steps.{Through}
use Rattle.td_algebra.proofs.Lists.{In, in_append}
use Rattle.td_algebra.proofs.Made.{has_in, has_fits}
use Rattle.td_algebra.proofs.Chains.{pair_is, is_pair, same_pair, second_value}

-- what the loop keeps, after the middles in which ms end
pub record IsClosedOver (r : RowsData) (ms : List Attrs) (o : RowsData) : Type 0 where
  pub heading : o.heading ≡ r.heading
  pub ascending : IsStrictlySortedBy attrs_order o.tuples
  pub sound : (u : Attrs) → Has o u → Closed r u
  pub contains : Within r o
  pub over : (x y z v : Datum) → In (pair r.heading v z) ms → Has o (pair r.heading x z) → Has o (pair r.heading z y) → Has o (pair r.heading x y)

pub missing : (o : Option Datum) (z : Datum) → o ≡ None → o ≡ Some z → ⊥
missing o z e f = let g : None ≡ Some z = sym e ∙ f in cc

-- ---- chains
chain : (r : RowsData) (x y z : Datum) (zs ws : List Datum) → Linked r x zs y → Linked r y ws z → Linked r x (zs ++ y ∷ ws) z
chain r x y z [] ws p q = (p, q)
chain r x y z (v ∷ zs) ws p q = (p.0, chain r v y z zs ws p.1 q)

module _ (r : RowsData) (b : IsBinary r.heading) where
  abbrev Q : Datum → Datum → Attrs
  Q x y = pair r.heading x y

  same : (x y v w : Datum) → Q x y ≡ Q v w → (x ≡ v) × (y ≡ w)
  same x y v w e = same_pair b.first b.second r.heading b.columns x y v w (sym (pair_is b.first b.second r.heading b.columns x y) ∙ e ∙ pair_is b.first b.second r.heading b.columns v w)

  closed_chain : (x y z : Datum) → Closed r (Q x y) → Closed r (Q y z) → Closed r (Q x z)
  closed_chain x y z p q =
      let s = same x y p.0 p.1 p.4 in
      let t = same y z q.0 q.1 q.4 in
      let one : Linked r x p.2 y = subst (λ w. Linked r w p.2 y) (sym s.0) (subst (λ w. Linked r p.0 p.2 w) (sym s.1) p.3) in
      let two : Linked r y q.2 z = subst (λ w. Linked r w q.2 z) (sym t.0) (subst (λ w. Linked r q.0 q.2 w) (sym t.1) q.3) in
      (x, z, p.2 ++ y ∷ q.2, chain r x y z p.2 q.2 one two, refl)

  module _ (rows : AreRows r.heading r.tuples) where
    is_q : (t : Attrs) → Has r t → (x : Datum) × (y : Datum) × (t ≡ Q x y)
    is_q t has =
        let p = is_pair b.first b.second r.heading b.columns t (has_fits r rows t has) in
        (p.0, p.1, p.2 ∙ sym (pair_is b.first b.second r.heading b.columns p.0 p.1))

    -- what a tuple ends in
    ends_in : (x y z : Datum) → attribute_of b.second (Q x y) ≡ Some z → z ≡ y
    ends_in x y z e =
        let f : Some y ≡ Some z = sym (second_value b.first b.second r.heading b.columns x y) ∙ ap (attribute_of b.second) (sym (pair_is b.first b.second r.heading b.columns x y)) ∙ e in
        cc

    closed_one : (t : Attrs) → Has r t → Closed r t
    closed_one t has = let k = is_q t has in (k.0, k.1, [], subst (Has r) k.2 has, k.2)

    pub begun : (o : RowsData) → o ≡ r → IsClosedOver r [] o
    begun o e = subst (IsClosedOver r []) (sym e) (record {
      heading = refl;
      ascending = rows.ascending;
      sound = closed_one;
      contains = λ t h. h;
      over = λ x y z v m _ _. absurd m;
    })

    module _ (ms : List Attrs) (o n : RowsData) (m : Attrs) (has_m : Has r m) (z : Datum) (m_ends : attribute_of b.second m ≡ Some z) (inv : IsClosedOver r ms o) (is : IsRelationOf o.heading (Through z o) n) where
      H : Header
      H = r.heading

      -- pairs of o are pairs of r's heading
      into : (x y : Datum) → Has o (Q x y) → HasPair o x y
      into x y h = subst (λ (k : Header). Has o (pair k x y)) (sym inv.heading) h

      out_of : (x y : Datum) → HasPair o x y → Has o (Q x y)
      out_of x y h = subst (λ (k : Header). Has o (pair k x y)) inv.heading h

      only : (w : Attrs) → Has n w → Has o w ⊎ ((x : Datum) × (y : Datum) × (Has o (Q x z)) × (Has o (Q z y)) × (w ≡ Q x y))
      only w h = elim (is.only w h) [
        | inl k ↦ inl k
        | inr k ↦ inr (k.0, k.1, out_of k.0 z k.2, out_of z k.1 k.3, k.4 ∙ ap (λ (g : Header). pair g k.0 k.1) inv.heading)
      ]

      old : (w : Attrs) → Has o w → Has n w
      old w h = is.all w (inl h)

      linked : (x y : Datum) → Has o (Q x z) → Has o (Q z y) → Has n (Q x y)
      linked x y f g = is.all (Q x y) (inr (x, y, into x z f, into z y g, ap (λ (k : Header). pair k x y) (sym inv.heading)))

      -- a pair that ends, or begins, in z was there before
      ended : (x : Datum) → Has n (Q x z) → Has o (Q x z)
      ended x h = elim (only (Q x z) h) [
        | inl k ↦ k
        | inr k ↦ let s = same x z k.0 k.1 k.4 in subst (λ w. Has o (Q w z)) (sym s.0) k.2
      ]

      begins : (y : Datum) → Has n (Q z y) → Has o (Q z y)
      begins y h = elim (only (Q z y) h) [
        | inl k ↦ k
        | inr k ↦ let s = same z y k.0 k.1 k.4 in subst (λ w. Has o (Q z w)) (sym s.1) k.3
      ]

      over_old : (x y q v : Datum) → In (Q v q) ms → Has n (Q x q) → Has n (Q q y) → Has n (Q x y)
      over_old x y q v i f g = elim (only (Q x q) f) [
        | inl f' ↦ elim (only (Q q y) g) [
          | inl g' ↦ old _ (inv.over x y q v i f' g')
          | inr g' ↦
              let s = same q y g'.0 g'.1 g'.4 in
              let qz : Has o (Q q z) = subst (λ w. Has o (Q w z)) (sym s.0) g'.2 in
              let zy : Has o (Q z y) = subst (λ w. Has o (Q z w)) (sym s.1) g'.3 in
              linked x y (inv.over x z q v i f' qz) zy
        ]
        | inr f' ↦
            let s = same x q f'.0 f'.1 f'.4 in
            let xz : Has o (Q x z) = subst (λ w. Has o (Q w z)) (sym s.0) f'.2 in
            let zq : Has o (Q z q) = subst (λ w. Has o (Q z w)) (sym s.1) f'.3 in
            elim (only (Q q y) g) [
              | inl g' ↦ linked x y xz (inv.over z y q v i zq g')
              | inr g' ↦
                  let s2 = same q y g'.0 g'.1 g'.4 in
                  linked x y xz (subst (λ w. Has o (Q z w)) (sym s2.1) g'.3)
            ]
      ]

      pub stepped : IsClosedOver r (ms ++ m ∷ []) n
      stepped = record {
        heading = is.heading ∙ inv.heading;
        ascending = is.ascending;
        sound = λ u h. elim (only u h) [
          | inl k ↦ inv.sound u k
          | inr k ↦ subst (Closed r) (sym k.4) (closed_chain k.0 z k.1 (inv.sound _ k.2) (inv.sound _ k.3))
        ];
        contains = λ t h. old t (inv.contains t h);
        over = λ x y q v i f g. elim (in_append ms (m ∷ []) _ i) [
          | inl before ↦ over_old x y q v before f g
          | inr last ↦ elim last [
            | inl here ↦
                let is_z : z ≡ q = ends_in v q z (ap (attribute_of b.second) here ∙ m_ends) in
                linked x y (ended x (subst (λ w. Has n (Q x w)) (sym is_z) f)) (begins y (subst (λ w. Has n (Q w y)) (sym is_z) g))
            | inr none ↦ absurd none
          ]
        ];
      }

    -- each tuple of r ends in a value
    pub has_end : (t : Attrs) → Has r t → (z : Datum) × (attribute_of b.second t ≡ Some z)
    has_end t has =
        let k = is_q t has in
        (k.1, ap (attribute_of b.second) (k.2 ∙ pair_is b.first b.second r.heading b.columns k.0 k.1) ∙ second_value b.first b.second r.heading b.columns k.0 k.1)

    linked_has : (o : RowsData) → IsClosedOver r r.tuples o → (x y : Datum) (zs : List Datum) → Linked r x zs y → Has o (Q x y)
    linked_has o inv x y [] l = inv.contains _ l
    linked_has o inv x y (z ∷ zs) l = inv.over x y z x (has_in r _ l.0) (inv.contains _ l.0) (linked_has o inv z y zs l.1)

    pub closed : (o : RowsData) → IsClosedOver r r.tuples o → IsRelationOf r.heading (Closed r) o
    closed o inv = record {
      heading = inv.heading;
      only = inv.sound;
      all = λ t c. subst (Has o) (sym c.4) (linked_has o inv c.0 c.1 c.2 c.3);
      ascending = inv.ascending;
    }

-- ---- the law
pub least : TcloseIsLeast
least r c b rows is = record {
  transitive = λ x y z p q. subst (λ (h : Header). Has c (pair h x z)) (sym is.heading) (is.all _ (closed_chain r b x y z (is.only _ (subst (λ (h : Header). Has c (pair h x y)) is.heading p)) (is.only _ (subst (λ (h : Header). Has c (pair h y z)) is.heading q))));
  contains = λ t h. is.all t (closed_one r b rows t h);
  least = λ s e trans within t h. let k = is.only t h in subst (Has s) (sym (k.4 ∙ ap (λ (w : Header). pair w k.0 k.1) (sym e))) (chained s e trans within k.0 k.1 k.2 k.3);
}
  where
    chained : (s : RowsData) → s.heading ≡ r.heading → IsTransitive s → Within r s → (x y : Datum) (zs : List Datum) → Linked r x zs y → HasPair s x y
    chained s e trans within x y [] l = subst (λ (h : Header). Has s (pair h x y)) (sym e) (within _ l)
    chained s e trans within x y (z ∷ zs) l = trans x z y (subst (λ (h : Header). Has s (pair h x z)) (sym e) (within _ l.0)) (chained s e trans within z y zs l.1)

-- ---- the test of two columns
two : {X : Type 0} (xs : List X) (d e : X) → length xs ≡ 2 → xs ≡ get_or xs 0 d ∷ get_or xs 1 e ∷ []
two [] d e l = absurd (omega arith)
two (x ∷ []) d e l = absurd (omega arith)
two (x ∷ y ∷ []) d e l = refl
two (x ∷ y ∷ z ∷ xs) d e l = absurd (omega arith)

pub binary_tested : (h : Header) (xs : List (List ℕ × Ty)) (d e : List ℕ × Ty) (b : Bool) → xs ≡ by_name.entries h → length xs ≡ 2 → b ≡ is_eq (ty_order (get_or xs 0 d).1 (get_or xs 1 e).1) → IsTrue b ↔ IsBinary h
binary_tested h xs d e b is l test =
    let x = get_or xs 0 d in
    let y = get_or xs 1 e in (
      λ t.
          let same : y.1 ≡ x.1 = sym (ty_tied x.1 y.1 (is_tied _ (sym test ∙ t))) in
          record { first = x.0; second = y.0; columns = record { ty = x.1; are = sym is ∙ two xs d e l ∙ (λ i. x ∷ (y.0, same i) ∷ []) } },
      λ p.
          let columns : xs ≡ (p.first, p.columns.ty) ∷ (p.second, p.columns.ty) ∷ [] = is ∙ p.columns.are in
          test ∙ (λ i. is_eq (ty_order (get_or (columns i) 0 d).1 (get_or (columns i) 1 e).1)) ∙ ap is_eq (tied_itself ty_order_total p.columns.ty),
    )
