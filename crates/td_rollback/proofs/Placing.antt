-- Items that are put in at the places of their marks, one after the other.
use Rattle.std.proofs.Common.{◌≡◌, ◌≤◌, ◌<◌, ◌+◌, ℕ, zero, suc, Bool, true, false, List, [], ◌∷◌, ◌++◌, append_assoc, drop, take, get_or, length, length-drop, refl, ap, sym, subst, ◌∙◌, arith}
use Rattle.std.specs.List.{insert}
use Rattle.std.proofs.lemmas.List.{drop_more, take-append-drop}
use Rattle.std.proofs.lemmas.List.Edits.{length-insert}
use Rattle.td_rollback.specs.Parts.{interleaved, unmarked}

-- as many marks are not set
abbrev pub AreOthers : {X : Type 0} → List Bool → List X → Type 0
AreOthers bs ys = length ys ≡ length (unmarked bs bs)

module _ {X : Type 0} where
  -- where nothing is left to be put in
  pub none_left : (bs : List Bool) (ys : List X) → AreOthers bs ys → interleaved bs [] ys ≡ ys
  none_left [] [] h = refl
  none_left [] (y ∷ ys) h = absurd (omega (arith, h))
  none_left (true ∷ bs) ys h = none_left bs ys h
  none_left (false ∷ bs) [] h = absurd (omega (arith, h))
  none_left (false ∷ bs) (y ∷ ys) h = ap (λ l. y ∷ l) (none_left bs ys (omega (arith, h)))

  take_inserted : (xs : List X) (n : ℕ) (x : X) → n ≤ length xs → take (suc n) (insert xs n x) ≡ take n xs ++ x ∷ []
  take_inserted xs zero x le = refl
  take_inserted [] (suc n) x le = absurd (omega (arith, le))
  take_inserted (y ∷ xs) (suc n) x le = ap (λ l. y ∷ l) (take_inserted xs n x (omega (arith, le)))

  drop_inserted : (xs : List X) (n : ℕ) (x : X) → n ≤ length xs → drop (suc n) (insert xs n x) ≡ drop n xs
  drop_inserted xs zero x le = refl
  drop_inserted [] (suc n) x le = absurd (omega (arith, le))
  drop_inserted (y ∷ xs) (suc n) x le = drop_inserted xs n x (omega (arith, le))

  take_cut : (xs : List X) (n : ℕ) (y : X) (zs : List X) → drop n xs ≡ y ∷ zs → take (suc n) xs ≡ take n xs ++ y ∷ []
  take_cut [] zero y zs is = cc
  take_cut (x ∷ xs) zero y zs is = cc
  take_cut [] (suc n) y zs is = cc
  take_cut (x ∷ xs) (suc n) y zs is = ap (λ l. x ∷ l) (take_cut xs n y zs is)

  drop_cut : (xs : List X) (n : ℕ) (y : X) (zs : List X) → drop n xs ≡ y ∷ zs → drop (suc n) xs ≡ zs
  drop_cut [] zero y zs is = cc
  drop_cut (x ∷ xs) zero y zs is = cc
  drop_cut [] (suc n) y zs is = cc
  drop_cut (x ∷ xs) (suc n) y zs is = drop_cut xs n y zs is

  -- where a mark is set: the next item stands there
  next_put : (bs cs : List Bool) (front xs ys : List X) (x : X) → bs ≡ true ∷ cs → front ++ interleaved bs (x ∷ xs) ys ≡ (front ++ x ∷ []) ++ interleaved cs xs ys
  next_put bs cs front xs ys x is = ap (λ (l : List Bool). front ++ interleaved l (x ∷ xs) ys) is ∙ sym (append_assoc front (x ∷ []) (interleaved cs xs ys))

  -- where none is set: the next of the others
  next_passed : (bs cs : List Bool) (front xs ys zs : List X) (y : X) → bs ≡ false ∷ cs → ys ≡ y ∷ zs → front ++ interleaved bs xs ys ≡ (front ++ y ∷ []) ++ interleaved cs xs zs
  next_passed bs cs front xs ys zs y is one = (λ i. front ++ interleaved (is i) xs (one i)) ∙ sym (append_assoc front (y ∷ []) (interleaved cs xs zs))

  others_put : (bs cs : List Bool) (ys : List X) → bs ≡ true ∷ cs → AreOthers bs ys → AreOthers cs ys
  others_put bs cs ys is h = h ∙ ap (λ (l : List Bool). length (unmarked l l)) is

  some_other : (bs cs : List Bool) (ys : List X) → bs ≡ false ∷ cs → AreOthers bs ys → 0 < length ys
  some_other bs cs ys is h = let n = h ∙ ap (λ (l : List Bool). length (unmarked l l)) is in omega (arith, n)

  others_passed : (bs cs : List Bool) (ys zs : List X) (y : X) → bs ≡ false ∷ cs → ys ≡ y ∷ zs → AreOthers bs ys → AreOthers cs zs
  others_passed bs cs ys zs y is one h =
      let n = h ∙ ap (λ (l : List Bool). length (unmarked l l)) is in
      let k = ap length one in
      omega (arith, n, k)

  -- the marks and what all were to become; what stands so far, what is left to be put in, and how many marks were passed
  pub record Placed (marks : List Bool) (end all rest : List X) (place : ℕ) : Type 0 where
    pub same : take place all ++ interleaved (drop place marks) rest (drop place all) ≡ end
    pub others : AreOthers (drop place marks) (drop place all)
    pub within : place ≤ length all

  module _ (marks : List Bool) (end all rest : List X) (place : ℕ) where
    pub none_to_place : length rest ≡ 0 → Placed marks end all rest place → all ≡ end
    none_to_place none p = by rest none p.same
      where
        by : (xs : List X) → length xs ≡ 0 → take place all ++ interleaved (drop place marks) xs (drop place all) ≡ end → all ≡ end
        by [] none same = sym (take-append-drop place all) ∙ ap (λ l. take place all ++ l) (sym (none_left (drop place marks) (drop place all) p.others)) ∙ same
        by (x ∷ xs) none same = absurd (omega (arith, none))

    next : suc place ≡ place + 1
    next = omega arith

    module _ (in_marks : place < length marks) where
      pub placed : (x : X) (now : List X) → get_or marks place false ≡ true → now ≡ insert all place x → Placed marks end all (x ∷ rest) place → Placed marks end now rest (place + 1)
      placed x now set is p =
          let marks_are : drop place marks ≡ true ∷ drop (place + 1) marks = drop_more marks place false in_marks ∙ ap (λ (b : Bool). b ∷ drop (place + 1) marks) set in
          let within = p.within in
          let front : take (place + 1) now ≡ take place all ++ x ∷ [] = ap (take (place + 1)) is ∙ subst (λ (n : ℕ). take n (insert all place x) ≡ take place all ++ x ∷ []) next (take_inserted all place x within) in
          let behind : drop (place + 1) now ≡ drop place all = ap (drop (place + 1)) is ∙ subst (λ (n : ℕ). drop n (insert all place x) ≡ drop place all) next (drop_inserted all place x within) in
          let many = ap length is ∙ length-insert all place x within in
          record {
            same = (λ i. front i ++ interleaved (drop (place + 1) marks) rest (behind i)) ∙ sym (next_put (drop place marks) (drop (place + 1) marks) (take place all) rest (drop place all) x marks_are) ∙ p.same;
            others = ap length behind ∙ others_put (drop place marks) (drop (place + 1) marks) (drop place all) marks_are p.others;
            within = omega (arith, many, within);
          }

      pub passed : get_or marks place false ≡ false → Placed marks end all rest place → Placed marks end all rest (place + 1)
      passed unset p =
          let marks_are : drop place marks ≡ false ∷ drop (place + 1) marks = drop_more marks place false in_marks ∙ ap (λ (b : Bool). b ∷ drop (place + 1) marks) unset in
          let some = some_other (drop place marks) (drop (place + 1) marks) (drop place all) marks_are p.others in
          step (drop place all) refl some marks_are
        where
          step : (ys : List X) → drop place all ≡ ys → 0 < length ys → drop place marks ≡ false ∷ drop (place + 1) marks → Placed marks end all rest (place + 1)
          step [] is some marks_are = absurd (omega (arith, some))
          step (y ∷ zs) is some marks_are =
              let front : take (place + 1) all ≡ take place all ++ y ∷ [] = subst (λ (n : ℕ). take n all ≡ take place all ++ y ∷ []) next (take_cut all place y zs is) in
              let behind : drop (place + 1) all ≡ zs = subst (λ (n : ℕ). drop n all ≡ zs) next (drop_cut all place y zs is) in
              let many = ap length is in
              let all_many = length-drop place all in
              record {
                same = (λ i. front i ++ interleaved (drop (place + 1) marks) rest (behind i)) ∙ sym (next_passed (drop place marks) (drop (place + 1) marks) (take place all) rest (drop place all) zs y marks_are is) ∙ p.same;
                others = ap length behind ∙ others_passed (drop place marks) (drop (place + 1) marks) (drop place all) zs y marks_are is p.others;
                within = omega (arith, many, all_many);
              }
