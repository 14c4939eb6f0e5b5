-- What values begin with, and that on tuples of one heading to compare it first changes no order.
use Rattle.std.proofs.Common.{◌≡◌, ℕ, zero, suc, ◌+◌, ◌*◌, ◌^◌, ◌<◌, ◌≤◌, Bool, true, false, true≢false, ◌==◌, if◌then◌else◌, pow-suc, drop, drop-drop, List, [], ◌∷◌, get_or, length, refl, sym, ap, ◌∙◌, subst, arith}
use Rattle.std.specs.declared.cmp.Ordering.{Ordering}
use Rattle.std.specs.declared.cmp.Ordering.TheVariants.{Less, Equal, Greater}
use Rattle.std.specs.Cmp.{IsStrictWeakOrder, ranks, tied_itself}
use Rattle.std.specs.List.{All}
use Rattle.std.specs.List.Sorted.{IsSorted, IsSortedBy}
use Rattle.std.specs.Ordering.{is_lt, MatchOrdering, nat_cmp, int_cmp, ordering_then}
use Rattle.std.proofs.lemmas.Cmp.{nat_cmp_total}
use Rattle.std.proofs.lemmas.List.Sorted.{ranks_by}
use Rattle.td_values.specs.Alike.{AreAlike, bare, values_order}
use Rattle.td_values.specs.Data.{Datum, boolean, integer, char, user, tuple, relation, Attrs, no_attrs, attr}
use Rattle.td_values.specs.Order.{text_cmp, order, attrs_order}
use Rattle.td_values.specs.Proving.Total.{attrs_order_total}
use Rattle.td_values.specs.Whole.{type_of, heading_of, IsWholeTuple}
use Rattle.td_values.proofs.AlikeLemmas.{tuples_alike}
use Rattle.td_relations.specs.ForProofs.Abbreviations.{digit, more, number_of, beginning, is_whole, first, second, AreBytes, IsOfBytes, FirstIsOfBytes, BeginsInBytes, abbreviated, by_beginnings}

-- how large the numbers are
pub low_power : (k : ℕ) → k ≤ 6 → 257 ^ k ≤ 257 ^ 6
low_power zero le = omega arith
low_power (suc zero) le = omega arith
low_power (suc (suc zero)) le = omega arith
low_power (suc (suc (suc zero))) le = omega arith
low_power (suc (suc (suc (suc zero)))) le = omega arith
low_power (suc (suc (suc (suc (suc zero))))) le = omega arith
low_power (suc (suc (suc (suc (suc (suc zero)))))) le = omega arith
low_power (suc (suc (suc (suc (suc (suc (suc k))))))) le = absurd (omega arith)

pub next_power : (n d k : ℕ) → n < 257 ^ k → d ≤ 256 → n * 257 + d < 257 ^ suc k
next_power n d k lt le = omega (arith, pow-suc 257 k)

pub whole_power : (n k : ℕ) → k ≤ 7 → n < 257 ^ k → n < 257 ^ 7
whole_power n zero le lt = omega arith
whole_power n (suc k) le lt = omega (arith, pow-suc 257 k, low_power k (omega arith))

pub all_of_one : {X : Type 0} (P : X → Type 0) (x : X) → P x → All P (x ∷ [])
all_of_one P x p zero d lt = p
all_of_one P x p (suc k) d lt = absurd (omega arith)

-- ---- the numbers are in the order of their texts
module _ where
  one_at_most : (s : List ℕ) → more s ≤ 1
  one_at_most [] = omega arith
  one_at_most (b ∷ s) = omega arith

  small_digit : (s : List ℕ) → AreBytes s → digit s ≤ 256
  small_digit [] bs = omega arith
  small_digit (b ∷ s) bs = let small : b < 256 = bs 0 in omega (arith, small)

  rest_of_bytes : (s : List ℕ) → AreBytes s → AreBytes (drop 1 s)
  rest_of_bytes [] bs = bs
  rest_of_bytes (b ∷ s) bs = λ k. bs (suc k)

  later_of_bytes : (n : ℕ) (s : List ℕ) → AreBytes s → AreBytes (drop n s)
  later_of_bytes zero s bs = bs
  later_of_bytes (suc n) [] bs = bs
  later_of_bytes (suc n) (b ∷ s) bs = later_of_bytes n s (λ k. bs (suc k))

  rises : (n a b : ℕ) (s t : List ℕ) → AreBytes s → a < b → number_of a n s < number_of b n t
  rises zero a b s t bs lt = omega (arith, one_at_most s, lt)
  rises (suc n) a b s t bs lt = rises n (a * 257 + digit s) (b * 257 + digit t) (drop 1 s) (drop 1 t) (rest_of_bytes s bs) (omega (arith, small_digit s bs, lt))

  -- how the texts lie by their numbers, and how what is left of them does where these are equal
  record Settles (s t r u : List ℕ) (x y : ℕ) : Type 0 where
    less : x < y → text_cmp s t ≡ Less
    same : x ≡ y → (text_cmp s t ≡ text_cmp r u) × (more r ≡ more u)
    greater : y < x → text_cmp s t ≡ Greater

  same_head : (x : ℕ) (s t : List ℕ) → text_cmp (x ∷ s) (x ∷ t) ≡ text_cmp s t
  same_head x s t = ap (λ o. ordering_then o (text_cmp s t)) (tied_itself nat_cmp_total x)

  settled : (n a : ℕ) (s t : List ℕ) → AreBytes s → AreBytes t → Settles s t (drop n s) (drop n t) (number_of a n s) (number_of a n t)
  settled zero a [] [] bs cs = record { less = λ l. absurd (omega (arith, l)); same = λ e. (refl, refl); greater = λ l. absurd (omega (arith, l)) }
  settled zero a [] (y ∷ t) bs cs = record { less = λ l. refl; same = λ e. absurd (omega (arith, e)); greater = λ l. absurd (omega (arith, l)) }
  settled zero a (x ∷ s) [] bs cs = record { less = λ l. absurd (omega (arith, l)); same = λ e. absurd (omega (arith, e)); greater = λ l. refl }
  settled zero a (x ∷ s) (y ∷ t) bs cs = record { less = λ l. absurd (omega (arith, l)); same = λ e. (refl, refl); greater = λ l. absurd (omega (arith, l)) }
  settled (suc n) a [] [] bs cs = record { less = λ l. absurd (omega (arith, l)); same = λ e. (refl, refl); greater = λ l. absurd (omega (arith, l)) }
  settled (suc n) a [] (y ∷ t) bs cs =
      let up = rises n (a * 257 + 0) (a * 257 + (y + 1)) [] t bs (omega arith) in
      record { less = λ l. refl; same = λ e. absurd (omega (arith, e, up)); greater = λ l. absurd (omega (arith, l, up)) }
  settled (suc n) a (x ∷ s) [] bs cs =
      let up = rises n (a * 257 + 0) (a * 257 + (x + 1)) [] s cs (omega arith) in
      record { less = λ l. absurd (omega (arith, l, up)); same = λ e. absurd (omega (arith, e, up)); greater = λ l. refl }
  settled (suc n) a (x ∷ s) (y ∷ t) bs cs =
      elim (nat_cmp x y) as (λ r. nat_cmp x y ≡ r → MatchOrdering r (x < y) (x ≡ y) (y < x) → Settles (x ∷ s) (y ∷ t) (drop n s) (drop n t) (number_of (a * 257 + (x + 1)) n s) (number_of (a * 257 + (y + 1)) n t)) [
        | Less ↦ λ e lt.
            let up = rises n (a * 257 + (x + 1)) (a * 257 + (y + 1)) s t (λ k. bs (suc k)) (omega (arith, lt)) in
            record { less = λ l. ap (λ o. ordering_then o (text_cmp s t)) e; same = λ q. absurd (omega (arith, q, up)); greater = λ l. absurd (omega (arith, l, up)) }
        | Equal ↦ λ e is.
            let behind = settled n (a * 257 + (x + 1)) s t (λ k. bs (suc k)) (λ k. cs (suc k)) in
            subst (λ z. Settles (x ∷ s) (z ∷ t) (drop n s) (drop n t) (number_of (a * 257 + (x + 1)) n s) (number_of (a * 257 + (z + 1)) n t)) is
            (record { less = λ l. same_head x s t ∙ behind.less l; same = λ q. (same_head x s t ∙ (behind.same q).0, (behind.same q).1); greater = λ l. same_head x s t ∙ behind.greater l })
        | Greater ↦ λ e gt.
            let up = rises n (a * 257 + (y + 1)) (a * 257 + (x + 1)) t s (λ k. cs (suc k)) (omega (arith, gt)) in
            record { less = λ l. absurd (omega (arith, l, up)); same = λ q. absurd (omega (arith, q, up)); greater = λ l. ap (λ o. ordering_then o (text_cmp s t)) e }
      ] refl (ranks x y)

-- ---- values by what they begin with
-- how two values of one type lie by what they begin with
abbrev Leads : (d e : Datum) → Ordering → Type 0
Leads d e o = MatchOrdering o (order (bare d) (bare e) ≡ Less) ((is_whole d ≡ is_whole e) × (is_whole d ≡ true → order (bare d) (bare e) ≡ Equal)) (order (bare d) (bare e) ≡ Greater)

nothing_more : (s t : List ℕ) → more s ≡ more t → (more s == 0) ≡ true → text_cmp s t ≡ Equal
nothing_more [] [] e h = refl
nothing_more [] (y ∷ t) e h = absurd (omega (arith, e))
nothing_more (x ∷ s) t e h = absurd (true≢false (sym h))

texts_lead : (s t : List ℕ) → AreBytes s → AreBytes t → Leads (char s) (char t) (order (beginning (char s)) (beginning (char t)))
texts_lead s t bs cs =
    let one = settled 7 0 s t bs cs in
    let two = settled 7 0 (drop 7 s) (drop 7 t) (later_of_bytes 7 s bs) (later_of_bytes 7 t cs) in
    elim (nat_cmp (number_of 0 7 s) (number_of 0 7 t)) as (λ o.
    MatchOrdering o (number_of 0 7 s < number_of 0 7 t) (number_of 0 7 s ≡ number_of 0 7 t) (number_of 0 7 t < number_of 0 7 s)
    → Leads (char s) (char t) (ordering_then o (ordering_then (nat_cmp (number_of 0 7 (drop 7 s)) (number_of 0 7 (drop 7 t))) Equal))) [
      | Less ↦ λ lt. one.less lt
      | Equal ↦ λ is.
          elim (nat_cmp (number_of 0 7 (drop 7 s)) (number_of 0 7 (drop 7 t))) as (λ o.
          MatchOrdering o (number_of 0 7 (drop 7 s) < number_of 0 7 (drop 7 t)) (number_of 0 7 (drop 7 s) ≡ number_of 0 7 (drop 7 t)) (number_of 0 7 (drop 7 t) < number_of 0 7 (drop 7 s))
          → Leads (char s) (char t) (ordering_then o Equal)) [
            | Less ↦ λ lt. (one.same is).0 ∙ two.less lt
            | Equal ↦ λ too.
                let goes_on : more (drop 14 s) ≡ more (drop 14 t) = ap more (sym (drop-drop 7 7 s)) ∙ (two.same too).1 ∙ ap more (drop-drop 7 7 t) in
                let left : text_cmp s t ≡ text_cmp (drop 14 s) (drop 14 t) = (one.same is).0 ∙ (two.same too).0 ∙ (λ i. text_cmp (drop-drop 7 7 s i) (drop-drop 7 7 t i)) in
                (ap (λ m. m == 0) goes_on, λ h. left ∙ nothing_more (drop 14 s) (drop 14 t) goes_on h)
            | Greater ↦ λ gt. (one.same is).0 ∙ two.greater gt
          ] (ranks (number_of 0 7 (drop 7 s)) (number_of 0 7 (drop 7 t)))
      | Greater ↦ λ gt. one.greater gt
    ] (ranks (number_of 0 7 s) (number_of 0 7 t))

by_itself : (r : Ordering) → MatchOrdering r (r ≡ Less) ((true ≡ true) × (true ≡ true → r ≡ Equal)) (r ≡ Greater)
by_itself Less = refl
by_itself Equal = (refl, λ h. refl)
by_itself Greater = refl

leads : (d e : Datum) → type_of d ≡ type_of e → IsOfBytes d → IsOfBytes e → Leads d e (order (beginning d) (beginning e))
leads (boolean a) (boolean b) h v w = (refl, λ q. absurd (true≢false (sym q)))
leads (integer m) (integer n) h v w = by_itself (int_cmp m n)
leads (char s) (char t) h v w = texts_lead s t v w
leads (user p is) (user q js) h v w = (refl, λ q. absurd (true≢false (sym q)))
leads (tuple s) (tuple t) h v w = (refl, λ q. absurd (true≢false (sym q)))
leads (relation g ts) (relation k us) h v w = (refl, λ q. absurd (true≢false (sym q)))
leads d e h v w = cc

-- to compare two values of one type by what they begin with first changes no order
pub beginnings_change_nothing : (d e : Datum) (r : Ordering) → type_of d ≡ type_of e → IsOfBytes d → IsOfBytes e → ordering_then (order (beginning d) (beginning e)) (ordering_then (order d e) r) ≡ ordering_then (order d e) r
beginnings_change_nothing (boolean a) (boolean b) r h v w = refl
beginnings_change_nothing (integer m) (integer n) r h v w = twice (int_cmp m n)
  where
    twice : (o : Ordering) → ordering_then o (ordering_then o r) ≡ ordering_then o r
    twice Less = refl
    twice Equal = refl
    twice Greater = refl
beginnings_change_nothing (char s) (char t) r h v w = elim (order (beginning (char s)) (beginning (char t))) as (λ o. Leads (char s) (char t) o → ordering_then o (ordering_then (order (char s) (char t)) r) ≡ ordering_then (order (char s) (char t)) r) [
  | Less ↦ λ l. sym (ap (λ q. ordering_then q r) l)
  | Equal ↦ λ l. refl
  | Greater ↦ λ l. sym (ap (λ q. ordering_then q r) l)
] (texts_lead s t v w)
beginnings_change_nothing (user p is) (user q js) r h v w = refl
beginnings_change_nothing (tuple s) (tuple t) r h v w = refl
beginnings_change_nothing (relation g ts) (relation k us) r h v w = refl
beginnings_change_nothing d e r h v w = cc

-- ---- tuples
firsts_change_nothing : (s t : Attrs) → heading_of s ≡ heading_of t → FirstIsOfBytes s → FirstIsOfBytes t → ordering_then (order (first s) (first t)) (values_order s t) ≡ values_order s t
firsts_change_nothing no_attrs no_attrs h v w = refl
firsts_change_nothing no_attrs (attr n e t) h v w = cc
firsts_change_nothing (attr m d s) no_attrs h v w = cc
firsts_change_nothing (attr m d s) (attr n e t) h v w =
    let ty : type_of d ≡ type_of e = cc in
    elim (order (beginning d) (beginning e)) as (λ o. Leads d e o → ordering_then o (ordering_then (order (bare d) (bare e)) (values_order s t)) ≡ ordering_then (order (bare d) (bare e)) (values_order s t)) [
      | Less ↦ λ l. sym (ap (λ r. ordering_then r (values_order s t)) l)
      | Equal ↦ λ l. refl
      | Greater ↦ λ l. sym (ap (λ r. ordering_then r (values_order s t)) l)
    ] (leads d e ty v w)

seconds_change_nothing : (b c : Bool) (r : Ordering) (s t : Attrs) → heading_of s ≡ heading_of t → b ≡ c → (b ≡ true → r ≡ Equal) → (b ≡ true → FirstIsOfBytes s) → (c ≡ true → FirstIsOfBytes t)
    → ordering_then (order (if b then first s else boolean false) (if c then first t else boolean false)) (ordering_then r (values_order s t)) ≡ ordering_then r (values_order s t)
seconds_change_nothing true true r s t h e f v w =
    ap (λ q. ordering_then (order (first s) (first t)) (ordering_then q (values_order s t))) (f refl)
    ∙ firsts_change_nothing s t h (v refl) (w refl)
    ∙ sym (ap (λ q. ordering_then q (values_order s t)) (f refl))
seconds_change_nothing true false r s t h e f v w = absurd (true≢false e)
seconds_change_nothing false true r s t h e f v w = absurd (true≢false (sym e))
seconds_change_nothing false false r s t h e f v w = refl

by_beginnings_alike : (s t : Attrs) → heading_of s ≡ heading_of t → BeginsInBytes s → BeginsInBytes t → by_beginnings s t ≡ values_order s t
by_beginnings_alike no_attrs no_attrs h v w = refl
by_beginnings_alike no_attrs (attr n e t) h v w = cc
by_beginnings_alike (attr m d s) no_attrs h v w = cc
by_beginnings_alike (attr m d s) (attr n e t) h v w =
    let ty : type_of d ≡ type_of e = cc in
    let rest : heading_of s ≡ heading_of t = cc in
    let seconds = order (second (attr m d s)) (second (attr n e t)) in
    let values = ordering_then (order (bare d) (bare e)) (values_order s t) in
    elim (order (beginning d) (beginning e)) as (λ o. Leads d e o → ordering_then o (ordering_then seconds values) ≡ values) [
      | Less ↦ λ l. sym (ap (λ r. ordering_then r (values_order s t)) l)
      | Equal ↦ λ l. seconds_change_nothing (is_whole d) (is_whole e) (order (bare d) (bare e)) s t rest l.0 l.1 v.1 w.1
      | Greater ↦ λ l. sym (ap (λ r. ordering_then r (values_order s t)) l)
    ] (leads d e ty v.0 w.0)

-- an order by beginnings serves to sort, and what it sorts is sorted
pub beginnings_rank : IsStrictWeakOrder (λ s t. is_lt (by_beginnings s t))
beginnings_rank = ranks_by attrs_order_total abbreviated

pub sorted_by_beginnings : (ts : List Attrs) → AreAlike ts → All IsWholeTuple ts → All BeginsInBytes ts → IsSortedBy (λ s t. is_lt (by_beginnings s t)) ts → IsSorted attrs_order ts
sorted_by_beginnings ts a w b up k d low lt =
    let there : k < length ts = omega (arith, lt) in
    let same : heading_of (get_or ts (k + 1) d) ≡ heading_of (get_or ts k d) = a (k + 1) d lt k d there in
    sym (ap is_lt (by_beginnings_alike (get_or ts (k + 1) d) (get_or ts k d) same (b (k + 1) d lt) (b k d there) ∙ tuples_alike (get_or ts (k + 1) d) (get_or ts k d) (w (k + 1) d lt) (w k d there) same)) ∙ up k d low lt
