-- What parting a text at the last place of a character says in the words of the definitions.
use Rattle.std.proofs.Common.{◌≡◌, ◌<◌, ◌≤◌, ◌+◌, ◌-◌, ◌==◌, ℕ, zero, suc, List, [], ◌∷◌, Bool, true, false, cond, MatchOption, Option, Some, None, Bor, length, length-drop, take, drop, get_or, get_or-drop, refl, ap, sym, ◌∙◌, eq-eqb, eqb-true, arith}
use Rattle.std.specs.Prelude.{option_map}
use Rattle.std.specs.Str.Pattern.{RFindsChar}
use Rattle.std.proofs.lemmas.Str.Pattern.{NoCharPasses-char}
use Rattle.std.proofs.lemmas.Str.{len_utf8_ascii}
use Rattle.td_commands.specs.Commands.{both_texts}
use Rattle.td_commands.specs.Lines.{or_here, parted_last}

-- no byte from the first on is c
abbrev Lacks : ℕ → List ℕ → Type 0
Lacks c bs = (k : ℕ) → k < length bs → get_or bs k 0 ≡ c → ⊥

behind : (c b : ℕ) (bs : List ℕ) → Lacks c (b ∷ bs) → Lacks c bs
behind c b bs h k lt = h (suc k) (omega (arith, lt))

not_here : (c b : ℕ) (bs : List ℕ) → Lacks c (b ∷ bs) → (here : Bool) → b == c ≡ here → or_here here b bs None ≡ None
not_here c b bs h false e = refl
not_here c b bs h true e = absurd (h 0 (omega arith) (eqb-true b c e))

none_there : (c : ℕ) (bs : List ℕ) → Lacks c bs → parted_last c bs ≡ None
none_there c [] h = refl
none_there c (b ∷ bs) h = ap (or_here (b == c) b bs) (none_there c bs (behind c b bs h)) ∙ not_here c b bs h (b == c) refl

is_here : (c b : ℕ) (bs : List ℕ) → b ≡ c → (here : Bool) → b == c ≡ here → or_here here b bs None ≡ Some ([], bs)
is_here c b bs same true e = refl
is_here c b bs same false e = let t : b == c ≡ true = eq-eqb b c same in cc

last_there : (c : ℕ) (bs : List ℕ) (i : ℕ) → i < length bs → get_or bs i 0 ≡ c → ((k : ℕ) → i < k → k < length bs → get_or bs k 0 ≡ c → ⊥) → parted_last c bs ≡ Some (take i bs, drop (suc i) bs)
last_there c [] i lt at later = absurd (omega (arith, lt))
last_there c (b ∷ bs) zero lt at later =
    ap (or_here (b == c) b bs) (none_there c bs (λ k below. later (suc k) (omega arith) (omega (arith, below)))) ∙ is_here c b bs at (b == c) refl
last_there c (b ∷ bs) (suc i) lt at later =
    ap (or_here (b == c) b bs) (last_there c bs i (omega (arith, lt)) at (λ k over below. later (suc k) (omega (arith, over)) (omega (arith, below))))

pub parted_last_is : (c : ℕ) (bs : List ℕ) (r : Option (Bor (List ℕ) × Bor (List ℕ)))
    → MatchOption r (RFindsChar c bs None) (λ x. (i : ℕ) × (j : ℕ) × RFindsChar c bs (Some (i, j)) × (x.0.now ≡ take i bs) × (x.1.now ≡ drop j bs) × (i ≤ j) × (length x.0.now ≡ i) × (length x.1.now + j ≡ length bs))
    → c < 128 → option_map both_texts r ≡ parted_last c bs
parted_last_is c bs None h low = sym (none_there c bs (λ k lt. NoCharPasses-char c bs k h low lt))
parted_last_is c bs (Some x) h low =
    let i = h.0 in
    let j = h.1 in
    let next : j ≡ suc i = omega (arith, h.2.1.ends, len_utf8_ascii c low) in
    let later : (k : ℕ) → i < k → k < length bs → get_or bs k 0 ≡ c → ⊥ = λ k a l e.
    let back : j + (k - j) ≡ k = omega arith in
    NoCharPasses-char c (drop j bs) (k - j) h.2.0 low (omega (arith, length-drop j bs)) (get_or-drop j bs (k - j) 0 ∙ ap (λ n. get_or bs n 0) back ∙ e) in
    let second = h.4 ∙ ap (λ n. drop n bs) next in
    (λ t. Some (h.3 t, second t)) ∙ sym (last_there c bs i (omega (arith, h.7)) (h.2.1.byte low) later)
