-- Two texts of which one is a front of the other one.
use Rattle.std.proofs.Common.{◌≡◌, ◌⊎◌, inl, inr, ◌<◌, ◌≤◌, ◌+◌, ℕ, zero, suc, Bool, true, false, cond, List, [], ◌∷◌, ◌++◌, length, take, drop, get_or, refl, sym, ap, ◌∙◌, arith}
use Rattle.std.proofs.lemmas.List.{get_or_append_left}

-- two lists that go on to the same: one is a front of the other one
pub split : (a b c d : List ℕ) → a ++ b ≡ c ++ d → ((x : List ℕ) × (c ≡ a ++ x) × (b ≡ x ++ d)) ⊎ ((x : List ℕ) × (a ≡ c ++ x) × (d ≡ x ++ b))
split [] b c d e = inl (c, refl, e)
split (x ∷ a) b [] d e = inr (x ∷ a, refl, sym e)
split (x ∷ a) b (y ∷ c) d e =
    let same : x ≡ y = cc in
    let behind : a ++ b ≡ c ++ d = cc in
    elim (split a b c d behind) [
      | inl w ↦ inl (w.0, ap (λ (z : ℕ). z ∷ c) (sym same) ∙ ap (λ (l : List ℕ). x ∷ l) w.1, w.2)
      | inr w ↦ inr (w.0, ap (λ (z : ℕ). z ∷ a) same ∙ ap (λ (l : List ℕ). y ∷ l) w.1, w.2)
    ]

-- at an offset in both they have the same byte
pub same_at : (a b c d : List ℕ) (i : ℕ) → a ++ b ≡ c ++ d → i < length a → i < length c → get_or a i 0 ≡ get_or c i 0
same_at a b c d i e in_a in_c = sym (get_or_append_left a b 0 i in_a) ∙ ap (λ (l : List ℕ). get_or l i 0) e ∙ get_or_append_left c d 0 i in_c

-- which of two branches is taken
pub when_true : {A : Type 0} (b : Bool) (x y : A) → b ≡ true → cond b x y ≡ x
when_true b x y e = rw e refl

pub when_false : {A : Type 0} (b : Bool) (x y : A) → b ≡ false → cond b x y ≡ y
when_false b x y e = rw e refl
