-- The greatest and the least of some values.
use Rattle.std.proofs.Common.{◌≡◌, inl, inr, Bool, true, false, List, [], ◌∷◌, refl, sym, ap, ◌∙◌, subst, if◌then◌else◌}
use Rattle.std.specs.declared.cmp.Ordering.{Ordering}
use Rattle.std.specs.declared.cmp.Ordering.TheVariants.{Less, Equal, Greater}
use Rattle.std.specs.Cmp.{tied_itself}
use Rattle.std.specs.List.{fold}
use Rattle.std.specs.Ordering.{is_gt, is_lt, ordering_reverse}
use Rattle.td_values.specs.Data.{Datum}
use Rattle.td_values.specs.Order.{order}
use Rattle.td_values.specs.Proving.Total.{order_total, tied}
use Rattle.td_algebra.specs.Summaries.{greater, lesser_of, IsGreatestOf, IsLeastOf, MaxIsGreatest, MinIsLeast}
use Rattle.td_algebra.proofs.Lists.{In, in_all, in_contains}

-- at most
abbrev Le : Datum → Datum → Type 0
Le x y = is_gt (order x y) ≡ false

le_itself : (x : Datum) → Le x x
le_itself x = ap is_gt (tied_itself order_total x)

le_by : (x y z : Datum) (p q : Ordering) → order x y ≡ p → order y z ≡ q → is_gt p ≡ false → is_gt q ≡ false → Le x z
le_by x y z Less Less e f a b = ap is_gt (order_total.trans x y z e f)
le_by x y z Less Equal e f a b = subst (Le x) (tied y z f) (ap is_gt e)
le_by x y z Less Greater e f a b = cc
le_by x y z Equal q e f a b = ap is_gt (order_total.congr x y z e ∙ f) ∙ b
le_by x y z Greater q e f a b = cc

le_trans : (x y z : Datum) → Le x y → Le y z → Le x z
le_trans x y z a b = le_by x y z (order x y) (order y z) refl refl a b

turned : (o : Ordering) → is_lt o ≡ false → is_gt (ordering_reverse o) ≡ false
turned Less e = cc
turned Equal e = refl
turned Greater e = refl

less_le : (o : Ordering) → is_lt o ≡ true → is_gt o ≡ false
less_le Less e = refl
less_le Equal e = cc
less_le Greater e = cc

-- one of two, by a test
one_of : (P : Datum → Type 0) (d e : Datum) (b : Bool) → (b ≡ true → P e) → (b ≡ false → P d) → P (if b then e else d)
one_of P d e true p q = p refl
one_of P d e false p q = q refl

-- better chooses one of two that is beyond both
module _ (better : Datum → Datum → Datum) (Beyond : Datum → Datum → Type 0) (beyond_itself : (x : Datum) → Beyond x x) (further : (x y z : Datum) → Beyond x y → Beyond y z → Beyond x z) (first : (d e : Datum) → Beyond d (better d e)) (second : (d e : Datum) → Beyond e (better d e)) (either : (P : Datum → Type 0) (d e : Datum) → P d → P e → P (better d e)) where
  fold_in : (d : Datum) (ds : List Datum) → In (fold better d ds) (d ∷ ds)
  fold_in d [] = inl refl
  fold_in d (e ∷ es) = elim (fold_in (better d e) es) [
    | inl same ↦ subst (λ x. In x (d ∷ e ∷ es)) (sym same) (either (λ x. In x (d ∷ e ∷ es)) d e (inl refl) (inr (inl refl)))
    | inr more ↦ inr (inr more)
  ]

  fold_beyond : (d : Datum) (ds : List Datum) (x : Datum) → In x (d ∷ ds) → Beyond x (fold better d ds)
  fold_beyond d [] x (inl e) = subst (Beyond x) e (beyond_itself x)
  fold_beyond d [] x (inr none) = absurd none
  fold_beyond d (e ∷ es) x (inl is) = further x (better d e) _ (subst (λ y. Beyond y (better d e)) (sym is) (first d e)) (fold_beyond (better d e) es (better d e) (inl refl))
  fold_beyond d (e ∷ es) x (inr (inl is)) = further x (better d e) _ (subst (λ y. Beyond y (better d e)) (sym is) (second d e)) (fold_beyond (better d e) es (better d e) (inl refl))
  fold_beyond d (e ∷ es) x (inr (inr m)) = fold_beyond (better d e) es x (inr m)

greater_first : (d e : Datum) → Le d (greater d e)
greater_first d e = one_of (Le d) d e (is_lt (order d e)) (λ b. less_le (order d e) b) (λ b. le_itself d)

greater_second : (d e : Datum) → Le e (greater d e)
greater_second d e = one_of (Le e) d e (is_lt (order d e)) (λ b. le_itself e) (λ b. ap is_gt (order_total.antisymm e d) ∙ turned (order d e) b)

lesser_first : (d e : Datum) → Le (lesser_of d e) d
lesser_first d e = one_of (λ x. Le x d) d e (is_lt (order e d)) (λ b. less_le (order e d) b) (λ b. le_itself d)

lesser_second : (d e : Datum) → Le (lesser_of d e) e
lesser_second d e = one_of (λ x. Le x e) d e (is_lt (order e d)) (λ b. le_itself e) (λ b. ap is_gt (order_total.antisymm d e) ∙ turned (order e d) b)

pub max_is_greatest : MaxIsGreatest
max_is_greatest [] d is = cc
max_is_greatest (e ∷ es) d is =
    let same : fold greater e es ≡ d = cc in
    let P : (P : Datum → Type 0) (x y : Datum) → P x → P y → P (greater x y) = λ P x y p q. one_of P x y (is_lt (order x y)) (λ b. q) (λ b. p) in
    subst (IsGreatestOf (e ∷ es)) same (
      in_contains (e ∷ es) _ (fold_in greater Le le_itself le_trans greater_first greater_second P e es),
      in_all (λ x. Le x (fold greater e es)) (e ∷ es) (fold_beyond greater Le le_itself le_trans greater_first greater_second P e es),
    )

pub min_is_least : MinIsLeast
min_is_least [] d is = cc
min_is_least (e ∷ es) d is =
    let same : fold lesser_of e es ≡ d = cc in
    let P : (P : Datum → Type 0) (x y : Datum) → P x → P y → P (lesser_of x y) = λ P x y p q. one_of P x y (is_lt (order y x)) (λ b. q) (λ b. p) in
    let Ge : Datum → Datum → Type 0 = λ x y. Le y x in
    let further : (x y z : Datum) → Le y x → Le z y → Le z x = λ x y z a b. le_trans z y x b a in
    subst (IsLeastOf (e ∷ es)) same (
      in_contains (e ∷ es) _ (fold_in lesser_of Ge le_itself further lesser_first lesser_second P e es),
      in_all (λ x. Le (fold lesser_of e es) x) (e ∷ es) (fold_beyond lesser_of Ge le_itself further lesser_first lesser_second P e es),
    )
