-- Whole lines, put together and taken apart.
use Rattle.std.proofs.Common.{◌≡◌, ◌≢◌, inl, inr, ℕ, ◌==◌, Bool, true, false, ◌&&◌, List, [], ◌∷◌, ◌++◌, length, Option, refl, sym, ap, ◌∙◌, append_assoc, append-nil, arith, MatchBool}
use Rattle.std.specs.List.{AllByRecursion}
use Rattle.std.specs.Io.KnownBytes.{IsAtEnd}
use Rattle.std.proofs.lemmas.Bool.{eqb-true, ne_eqb, true≢false}
use Rattle.td_io.specs.Lines.{raw_lines, is_one_line, IsWholeLine}
use Rattle.td_io.proofs.LineEnds.{raw_first, raw_last}
use Rattle.td_workbench.specs.Runs.{IsReadOut}

-- lines, one behind the other
unfoldable pub joined : List (List ℕ) → List ℕ
joined [] = []
joined (l ∷ ls) = l ++ joined ls

pub joined_last : (ls : List (List ℕ)) (l : List ℕ) → joined (ls ++ l ∷ []) ≡ joined ls ++ l
unfolding joined
joined_last [] l = append-nil l
joined_last (k ∷ ls) l = ap (λ (x : List ℕ). k ++ x) (joined_last ls l) ∙ sym (append_assoc k (joined ls) l)

pub joined_none : joined [] ≡ []
unfolding joined
joined_none = refl

pub raw_whole : (ls : List (List ℕ)) (more : List ℕ) → AllByRecursion IsWholeLine ls → raw_lines (joined ls ++ more) ≡ ls ++ raw_lines more
unfolding joined
raw_whole [] more all = refl
raw_whole (l ∷ ls) more all = ap raw_lines (append_assoc l (joined ls) more) ∙ raw_first l (joined ls ++ more) all.0 ∙ ap (λ (ks : List (List ℕ)). l ∷ ks) (raw_whole ls more all.1)

pub all_append : (P : List ℕ → Type 0) (ls ks : List (List ℕ)) → AllByRecursion P ls → AllByRecursion P ks → AllByRecursion P (ls ++ ks)
all_append P [] ks all more = more
all_append P (l ∷ ls) ks all more = (all.0, all_append P ls ks all.1 more)

pub raw_one : (l : List ℕ) → IsWholeLine l → raw_lines l ≡ l ∷ []
raw_one l whole = ap raw_lines (sym (append-nil l)) ∙ raw_first l [] whole

some_bytes : (raw : List ℕ) → (length raw == 0) ≡ false → raw ≢ []
some_bytes raw some is = true≢false (sym (ap (λ (r : List ℕ). length r == 0) is) ∙ some)

pub no_bytes : (raw : List ℕ) → (length raw == 0) ≡ true → raw ≡ []
no_bytes [] none = refl
no_bytes (b ∷ raw) none = absurd (omega (arith, eqb-true (length (b ∷ raw)) 0 none))

pub raw_rest : (l : List ℕ) → is_one_line l ≡ true → (length l == 0) ≡ false → raw_lines l ≡ l ∷ []
raw_rest l one some = raw_last l one (some_bytes l some)

pub raw_some : (b : ℕ) (bs : List ℕ) → is_one_line (b ∷ bs) ≡ true → raw_lines (b ∷ bs) ≡ (b ∷ bs) ∷ []
raw_some b bs one = raw_rest (b ∷ bs) one (ne_eqb (length (b ∷ bs)) 0 (λ e. omega (arith, e)))

-- a line that was read is one, unless nothing was left of the input
pub one_line : (is_last : Bool) (raw : List ℕ) (left : Option (List ℕ)) → MatchBool is_last ((is_one_line raw ≡ true) × IsAtEnd left) (IsWholeLine raw) → (is_last && (length raw == 0)) ≡ false
    → (raw_lines raw ≡ raw ∷ []) × IsReadOut raw left
one_line true raw left read some = (raw_rest raw read.0 some, inr read)
one_line false raw left whole some = (raw_one raw whole, inl whole)
