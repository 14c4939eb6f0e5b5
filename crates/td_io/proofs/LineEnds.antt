-- Lines of bytes: where they end, and what is kept of one.
use Rattle.std.proofs.Common.{◌≡◌, ◌≢◌, inl, inr, ℕ, ◌+◌, ◌-◌, ◌≤◌, ◌<◌, ◌==◌, Bool, true, false, not, cond, ◌&&◌, nat_le, List, [], ◌∷◌, ◌++◌, take, drop, length, Option, Some, None, refl, sym, ap, ◌∙◌, subst, arith, leb-true, length-append, length-take-le, unwrap_or, option_and_then, zero, suc, slice_index, All, append_assoc, get_or-take}
use Rattle.std.proofs.Math.ListN.{get_or-append}
use Rattle.std.proofs.lemmas.List.{take-append-le}
use Rattle.std.proofs.lemmas.Bool.{eqb-true, ne_eqb, leb-false}
use Rattle.std.specs.Option.{option_map_or}
use Rattle.std.proofs.lemmas.List.Folds.{list_all-append}
use Rattle.std.specs.Str.{bytes_eq}
use Rattle.std.specs.Io.{StopsAt}
use Rattle.td_io.specs.Lines.{onto, raw_lines, cut_end, cut_cr, content, is_one_line, IsWholeLine, IsOfOneLine, IsKept}
use Rattle.td_io.specs.ForProofs.Held.{begun, with_bytes, kept}

-- ---- splitting at LF

-- a byte after a part of a line ends the line, or is of it
pub part_more : (front : List ℕ) (b : ℕ) → is_one_line front ≡ true → IsOfOneLine (front ++ b ∷ [])
part_more front b one = by (b == 10) refl
  where
    by : (t : Bool) → (b == 10) ≡ t → IsOfOneLine (front ++ b ∷ [])
    by true e = inr (front, one, ap (λ (c : ℕ). front ++ c ∷ []) (eqb-true b 10 e))
    by false e = inl (list_all-append (λ c. not (c == 10)) front (b ∷ []) ∙ rw (one, e) refl)

-- a byte that is no LF is of the line
pub one_more : (front : List ℕ) (b : ℕ) → is_one_line front ≡ true → (b ≡ 10 → ⊥) → is_one_line (front ++ b ∷ []) ≡ true
one_more front b one other = list_all-append (λ c. not (c == 10)) front (b ∷ []) ∙ rw (one, ne_eqb b 10 other) refl

no_lf : (b : ℕ) (bs : List ℕ) → is_one_line (b ∷ bs) ≡ true → ((b == 10) ≡ false) × (is_one_line bs ≡ true)
no_lf b bs h = by (b == 10) h
  where
    by : (t : Bool) → (not t && is_one_line bs) ≡ true → (t ≡ false) × (is_one_line bs ≡ true)
    by true e = cc
    by false e = (refl, e)

whole_first : (front more : List ℕ) → is_one_line front ≡ true → raw_lines ((front ++ 10 ∷ []) ++ more) ≡ (front ++ 10 ∷ []) ∷ raw_lines more
whole_first [] more one = refl
whole_first (b ∷ front) more one = let h = no_lf b front one in rw h.0 (ap (onto b) (whole_first front more h.1))

-- a whole line is the first
pub raw_first : (l more : List ℕ) → IsWholeLine l → raw_lines (l ++ more) ≡ l ∷ raw_lines more
raw_first l more (front, one, is) = subst (λ (k : List ℕ). raw_lines (k ++ more) ≡ k ∷ raw_lines more) (sym is) (whole_first front more one)

raw_part : (b : ℕ) (bs : List ℕ) → is_one_line (b ∷ bs) ≡ true → raw_lines (b ∷ bs) ≡ (b ∷ bs) ∷ []
raw_part b [] one = let h = no_lf b [] one in rw h.0 refl
raw_part b (c ∷ bs) one = let h = no_lf b (c ∷ bs) one in rw h.0 (ap (onto b) (raw_part c bs h.1))

-- what has no LF is one line, where there is anything
pub raw_last : (l : List ℕ) → is_one_line l ≡ true → l ≢ [] → raw_lines l ≡ l ∷ []
raw_last [] one some = absurd (some refl)
raw_last (b ∷ bs) one some = raw_part b bs one

-- ---- what is kept of a line

cut_length : (b : ℕ) (bs : List ℕ) → length bs ≤ length (unwrap_or (cut_end b bs) bs) + 1
cut_length b bs = by (bytes_eq (drop (length bs - 1) bs) (b ∷ []))
  where
    by : (t : Bool) → length bs ≤ length (unwrap_or (cond t (Some (take (length bs - 1) bs)) None) bs) + 1
    by true = omega (arith, length-take-le (length bs - 1) bs (omega arith))
    by false = omega arith

content_length : (bs : List ℕ) → length bs ≤ length (content bs) + 2
content_length bs = by (bytes_eq (drop (length bs - 1) bs) (10 ∷ [])) (cut_length 13 (take (length bs - 1) bs))
  where
    by : (t : Bool) → length (take (length bs - 1) bs) ≤ length (cut_cr (take (length bs - 1) bs)) + 1 → length bs ≤ length (option_map_or cut_cr (cond t (Some (take (length bs - 1) bs)) None) bs) + 2
    by true h = omega (arith, length-take-le (length bs - 1) bs (omega arith))
    by false h = omega arith

-- what is kept of a line that was read to its end
kept_of_begun : (most : ℕ) (raw : List ℕ) → option_and_then (kept most) (begun most raw) ≡ kept most raw
kept_of_begun most raw = by (nat_le (length raw) (most + 2)) (nat_le (length (content raw)) most) refl refl
  where
    by : (s t : Bool) → nat_le (length raw) (most + 2) ≡ s → nat_le (length (content raw)) most ≡ t
        → option_and_then (kept most) (cond s (Some raw) None) ≡ cond t (Some raw) None
    by true t e f = rw f refl
    by false true e f = absurd (omega (arith, content_length raw, leb-true _ _ f, leb-false _ _ e))
    by false false e f = refl

-- what is held of a line that was read to its end says what is kept of it
pub kept_at_end : (most : ℕ) (raw : List ℕ) (held all : Option (List ℕ)) → all ≡ begun most raw → held ≡ option_and_then (kept most) all → IsKept most raw held
kept_at_end most raw held all e f = subst (IsKept most raw) (sym (f ∙ ap (option_and_then (kept most)) e ∙ kept_of_begun most raw)) (by (nat_le (length (content raw)) most) refl)
  where
    by : (t : Bool) → nat_le (length (content raw)) most ≡ t → IsKept most raw (cond t (Some raw) None)
    by true g = (refl, leb-true _ _ g)
    by false g = leb-false _ _ g

begun_step : (most : ℕ) (p raw : List ℕ) → option_and_then (with_bytes most p) (begun most raw) ≡ begun most (raw ++ p)
begun_step most p raw = by (nat_le (length raw) (most + 2)) (nat_le (length raw + length p) (most + 2)) (nat_le (length (raw ++ p)) (most + 2)) refl refl refl
  where
    long : length (raw ++ p) ≡ length raw + length p
    long = length-append raw p

    by : (s t u : Bool) → nat_le (length raw) (most + 2) ≡ s → nat_le (length raw + length p) (most + 2) ≡ t → nat_le (length (raw ++ p)) (most + 2) ≡ u
        → option_and_then (with_bytes most p) (cond s (Some raw) None) ≡ cond u (Some (raw ++ p)) None
    by true true true e f g = rw f refl
    by true true false e f g = absurd (omega (arith, long, leb-true _ _ f, leb-false _ _ g))
    by true false true e f g = absurd (omega (arith, long, leb-false _ _ f, leb-true _ _ g))
    by true false false e f g = rw f refl
    by false t true e f g = absurd (omega (arith, long, leb-false _ _ e, leb-true _ _ g))
    by false t false e f g = refl

-- what is held of a line with these bytes more
pub begun_more : (most : ℕ) (p raw : List ℕ) (held more : Option (List ℕ)) → held ≡ begun most raw → more ≡ option_and_then (with_bytes most p) held → more ≡ begun most (raw ++ p)
begun_more most p raw held more e f = f ∙ ap (option_and_then (with_bytes most p)) e ∙ begun_step most p raw

-- ---- a part of a line

one_of_none : (bs : List ℕ) → All (λ b. b ≢ 10) bs → is_one_line bs ≡ true
one_of_none [] none = refl
one_of_none (b ∷ bs) none = let here = ne_eqb b 10 (none 0 0 (omega arith)) in rw here (one_of_none bs (λ k d lt. none (suc k) d (omega (arith, lt))))

-- without its last byte, and that
last_at : (n : ℕ) (p : List ℕ) → length p ≡ suc n → p ≡ take n p ++ slice_index p n ∷ []
last_at n [] many = absurd (omega (arith, many))
last_at zero (b ∷ []) many = refl
last_at zero (b ∷ c ∷ p) many = absurd (omega (arith, many))
last_at (suc n) (b ∷ p) many = ap (λ q. b ∷ q) (last_at n p (omega (arith, many)))

last_apart : (p : List ℕ) → 0 < length p → p ≡ take (length p - 1) p ++ slice_index p (length p - 1) ∷ []
last_apart p some = last_at (length p - 1) p (omega (arith, some))

-- what was read of a line and a part more: but for its last byte it has no LF
pub record PartRead (raw p : List ℕ) : Type 0 where
  pub front : List ℕ
  pub one : is_one_line front ≡ true
  pub is : raw ++ p ≡ front ++ slice_index p (length p - 1) ∷ []

pub part_read : (raw p : List ℕ) → 0 < length p → StopsAt p 10 → is_one_line raw ≡ true → PartRead raw p
part_read raw p some stops one =
    let front = take (length p - 1) p in
    record {
      front = raw ++ front;
      one = list_all-append (λ c. not (c == 10)) raw front ∙ rw (one, one_of_none front stops) refl;
      is = ap (λ q. raw ++ q) (last_apart p some) ∙ sym (append_assoc raw front (slice_index p (length p - 1) ∷ []));
    }

pub read_of_one : (raw p : List ℕ) → PartRead raw p → IsOfOneLine (raw ++ p)
read_of_one raw p r = subst IsOfOneLine (sym r.is) (part_more r.front (slice_index p (length p - 1)) r.one)

pub read_whole : (raw p : List ℕ) → PartRead raw p → slice_index p (length p - 1) ≡ 10 → IsWholeLine (raw ++ p)
read_whole raw p r end = (r.front, r.one, r.is ∙ ap (λ (b : ℕ). r.front ++ b ∷ []) end)

pub read_on : (raw p : List ℕ) → PartRead raw p → (slice_index p (length p - 1) ≡ 10 → ⊥) → is_one_line (raw ++ p) ≡ true
read_on raw p r other = ap is_one_line r.is ∙ one_more r.front (slice_index p (length p - 1)) r.one other

pub taken_at_most : (n : ℕ) (bs : List ℕ) → length (take n bs) ≤ n
taken_at_most zero bs = omega arith
taken_at_most (suc n) [] = omega arith
taken_at_most (suc n) (b ∷ bs) = let before = taken_at_most n bs in omega (arith, before)

-- the reads that were made for the bytes and for a part of so many, which was read into room for no more
pub reads_more : (old now room n : ℕ) (raw bs new : List ℕ) → now + length raw ≡ old → room ≤ now → length new ≡ length (take room bs) → n ≤ length new
    → (old - (now - n) ≡ length (raw ++ take n new) + 0) × (now - n + length (raw ++ take n new) ≡ old)
reads_more old now room n raw bs new count few same within =
    let most = taken_at_most room bs in
    let long = length-take-le n new within in
    let all = length-append raw (take n new) in
    (omega (arith, count, few, same, within, most, long, all), omega (arith, count, few, same, within, most, long, all))

-- the last byte of a part, in what the part was read into
pub last_of : (n : ℕ) (new rest : List ℕ) → 0 < n → n ≤ length new → slice_index (take n new) (length (take n new) - 1) ≡ slice_index (new ++ rest) (n - 1)
last_of n new rest some within =
    ap (λ m. slice_index (take n new) (m - 1)) (length-take-le n new within)
    ∙ get_or-take n new (n - 1) 0 (omega (arith, some))
    ∙ sym (get_or-append new rest 0 (n - 1) (omega (arith, some, within)))

-- what is held with a part more, in what the part was read into
pub begun_part : (most n : ℕ) (new rest raw : List ℕ) (held more : Option (List ℕ)) → n ≤ length new → held ≡ begun most raw → more ≡ option_and_then (with_bytes most (take n (new ++ rest))) held → more ≡ begun most (raw ++ take n new)
begun_part most n new rest raw held more within e f = begun_more most (take n new) raw held more e (subst (λ p. more ≡ option_and_then (with_bytes most p) held) (take-append-le n new rest within) f)
