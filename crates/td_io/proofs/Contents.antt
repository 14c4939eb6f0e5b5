-- What is cut off a line.
use Rattle.std.proofs.Common.{◌≡◌, ◌≢◌, ℕ, ◌-◌, ◌==◌, Bool, true, false, ◌&&◌, ◌||◌, not, cond, List, [], ◌∷◌, ◌++◌, take, drop, length, Some, None, sym, ap, ◌∙◌, refl, arith, append_assoc, length-append, take-append-drop, unwrap_or}
use Rattle.std.proofs.Math.Seq.{take-append_seam, drop-append_seam}
use Rattle.std.proofs.lemmas.Slice.Eq.{bytes_eq-Decides}
use Rattle.std.specs.List.{list_any}
use Rattle.std.specs.Option.{option_map_or}
use Rattle.std.specs.Str.{bytes_eq}
use Rattle.td_io.specs.Lines.{cut_end, cut_cr, content, is_one_line}

front_length : (front : List ℕ) (b : ℕ) → length (front ++ b ∷ []) - 1 ≡ length front
front_length front b = omega (arith, length-append front (b ∷ []))

without_last : (front : List ℕ) (b : ℕ) → take (length (front ++ b ∷ []) - 1) (front ++ b ∷ []) ≡ front
without_last front b = ap (λ n. take n (front ++ b ∷ [])) (front_length front b) ∙ take-append_seam front (b ∷ [])

last_alone : (front : List ℕ) (b : ℕ) → drop (length (front ++ b ∷ []) - 1) (front ++ b ∷ []) ≡ b ∷ []
last_alone front b = ap (λ n. drop n (front ++ b ∷ [])) (front_length front b) ∙ drop-append_seam front (b ∷ [])

cut_last : (front : List ℕ) (b : ℕ) → cut_end b (front ++ b ∷ []) ≡ Some front
cut_last front b =
    let same : bytes_eq (drop (length (front ++ b ∷ []) - 1) (front ++ b ∷ [])) (b ∷ []) ≡ true = (bytes_eq-Decides _ _).1 (last_alone front b) in
    rw same (ap Some (without_last front b))

cut_none : (b : ℕ) (xs : List ℕ) → ((front : List ℕ) → xs ≢ front ++ b ∷ []) → cut_end b xs ≡ None
cut_none b xs other = by (bytes_eq (drop (length xs - 1) xs) (b ∷ [])) refl
  where
    by : (t : Bool) → bytes_eq (drop (length xs - 1) xs) (b ∷ []) ≡ t → cond t (Some (take (length xs - 1) xs)) None ≡ None
    by true e = absurd (other (take (length xs - 1) xs) (sym (take-append-drop (length xs - 1) xs) ∙ ap (λ l. take (length xs - 1) xs ++ l) ((bytes_eq-Decides _ _).0 e)))
    by false e = refl

pub crlf_is_cut : (front : List ℕ) → content (front ++ 13 ∷ 10 ∷ []) ≡ front
crlf_is_cut front =
    let split : (front ++ 13 ∷ []) ++ 10 ∷ [] ≡ front ++ 13 ∷ 10 ∷ [] = append_assoc front (13 ∷ []) (10 ∷ []) in
    ap content (sym split) ∙ ap (λ r. option_map_or cut_cr r ((front ++ 13 ∷ []) ++ 10 ∷ [])) (cut_last (front ++ 13 ∷ []) 10) ∙ ap (λ r. unwrap_or r (front ++ 13 ∷ [])) (cut_last front 13)

pub lf_is_cut : (front : List ℕ) → ((before : List ℕ) → front ≢ before ++ 13 ∷ []) → content (front ++ 10 ∷ []) ≡ front
lf_is_cut front other = ap (λ r. option_map_or cut_cr r (front ++ 10 ∷ [])) (cut_last front 10) ∙ ap (λ r. unwrap_or r front) (cut_none 13 front other)

pub nothing_else_is_cut : (raw : List ℕ) → ((front : List ℕ) → raw ≢ front ++ 10 ∷ []) → content raw ≡ raw
nothing_else_is_cut raw other = ap (λ r. option_map_or cut_cr r raw) (cut_none 10 raw other)

-- the bytes have an LF, or they are of one line
or_not : (b some all : Bool) → some ≡ not all → (b || some) ≡ not (not b && all)
or_not true some all is = refl
or_not false some all is = is

pub has_line_end : (bs : List ℕ) → list_any (λ b. b == 10) bs ≡ not (is_one_line bs)
has_line_end [] = refl
has_line_end (b ∷ bs) = or_not (b == 10) (list_any (λ x. x == 10) bs) (is_one_line bs) (has_line_end bs)
