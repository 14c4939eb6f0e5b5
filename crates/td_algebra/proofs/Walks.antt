-- Answers gathered along a list.
use Rattle.std.proofs.Common.{◌≡◌, ◌<◌, ◌≤◌, ◌⊎◌, inl, inr, ℕ, zero, suc, ◌+◌, ◌++◌, List, [], ◌∷◌, length, get_or, drop, map, IfOk, Bool, true, false, Result, Ok, Err, refl, sym, ap, ◌∙◌, subst, ⊎_elim, append_assoc, append-nil, nat_le, if◌then◌else◌, arith}
use Rattle.std.specs.List.{All, Contains}
use Rattle.std.proofs.lemmas.Bool.Decides.{nat_tests}
use Rattle.std.proofs.lemmas.List.{drop_more, drop_all, map-append}
use Rattle.std.proofs.lemmas.List.Elements.{All-push, All-get_or}
use Rattle.td_algebra.specs.declared.errors.Fault.{Fault}
use Rattle.td_algebra.specs.declared.errors.Fault.TheVariants.{Raised, OutOfMemory, Wanting}
use Rattle.td_algebra.specs.declared.errors.Stop.{Stop}
use Rattle.td_algebra.specs.Stops.{stop_number, lesser}
use Rattle.td_algebra.specs.Raising.{Answers, AnswersBy, and_all, alone, all_of}
use Rattle.td_algebra.specs.ForProofs.Gathered.{meaning_of}

first : (e f : Stop) → nat_le (stop_number e) (stop_number f) ≡ true → lesser e f ≡ e
first e f h = rw h refl

second : (e f : Stop) → nat_le (stop_number e) (stop_number f) ≡ false → lesser e f ≡ f
second e f h = rw h refl

lesser_by : (e f g : Stop) (x y z : Bool) → nat_le (stop_number e) (stop_number f) ≡ x → nat_le (stop_number f) (stop_number g) ≡ y → nat_le (stop_number e) (stop_number g) ≡ z → lesser (lesser e f) g ≡ lesser e (lesser f g)
lesser_by e f g true true true ex ey ez = ap (λ k. lesser k g) (first e f ex) ∙ first e g ez ∙ sym (ap (lesser e) (first f g ey) ∙ first e f ex)
lesser_by e f g true true false ex ey ez = absurd (grind (arith, nat_tests, ex, ey, ez))
lesser_by e f g true false z ex ey ez = ap (λ k. lesser k g) (first e f ex) ∙ sym (ap (lesser e) (second f g ey))
lesser_by e f g false true z ex ey ez = ap (λ k. lesser k g) (second e f ex) ∙ first f g ey ∙ sym (ap (lesser e) (first f g ey) ∙ second e f ex)
lesser_by e f g false false true ex ey ez = absurd (grind (arith, nat_tests, ex, ey, ez))
lesser_by e f g false false false ex ey ez = ap (λ k. lesser k g) (second e f ex) ∙ second f g ey ∙ sym (ap (lesser e) (second f g ey) ∙ second e g ez)

pub lesser_assoc : (e f g : Stop) → lesser (lesser e f) g ≡ lesser e (lesser f g)
lesser_assoc e f g = lesser_by e f g (nat_le (stop_number e) (stop_number f)) (nat_le (stop_number f) (stop_number g)) (nat_le (stop_number e) (stop_number g)) refl refl refl

lesser_either_by : (P : Stop → Type 0) (e f : Stop) (b : Bool) → P e → P f → P (if b then e else f)
lesser_either_by P e f true p q = p
lesser_either_by P e f false p q = q

lesser_either : (P : Stop → Type 0) (e f : Stop) → P e → P f → P (lesser e f)
lesser_either P e f p q = lesser_either_by P e f (nat_le (stop_number e) (stop_number f)) p q

below_by : (e f : Stop) (b : Bool) → nat_le (stop_number e) (stop_number f) ≡ b → (stop_number (if b then e else f) ≤ stop_number e) × (stop_number (if b then e else f) ≤ stop_number f)
below_by e f true h = (omega arith, grind (arith, nat_tests, h))
below_by e f false h = (grind (arith, nat_tests, h), omega arith)

lesser_below : (e f : Stop) → (stop_number (lesser e f) ≤ stop_number e) × (stop_number (lesser e f) ≤ stop_number f)
lesser_below e f = below_by e f (nat_le (stop_number e) (stop_number f)) refl

below_too : (e g f : Stop) → stop_number g ≤ stop_number f → stop_number (lesser e g) ≤ stop_number f
below_too e g f h = let l = (lesser_below e g).1 in omega (arith, l, h)

pub and_all_assoc : {A : Type 0} (a b c : Result (List A) Stop) → and_all (and_all a b) c ≡ and_all a (and_all b c)
and_all_assoc (Ok xs) (Ok ys) (Ok zs) = ap Ok (append_assoc xs ys zs)
and_all_assoc (Ok xs) (Ok ys) (Err g) = refl
and_all_assoc (Ok xs) (Err f) (Ok zs) = refl
and_all_assoc (Ok xs) (Err f) (Err g) = refl
and_all_assoc (Err e) (Ok ys) (Ok zs) = refl
and_all_assoc (Err e) (Ok ys) (Err g) = refl
and_all_assoc (Err e) (Err f) (Ok zs) = refl
and_all_assoc (Err e) (Err f) (Err g) = ap Err (lesser_assoc e f g)

pub and_none : {A : Type 0} (a : Result (List A) Stop) → and_all a (Ok []) ≡ a
and_none (Ok xs) = ap Ok (append-nil xs)
and_none (Err e) = refl

-- one more place
pub all_more : {X A : Type 0} (m : X → Result A Stop) (s : Result (List A) Stop) (xs : List X) (i : ℕ) (x : X) → i < length xs
    → and_all s (all_of m (drop i xs)) ≡ and_all (and_all s (alone (m (get_or xs i x)))) (all_of m (drop (i + 1) xs))
all_more m s xs i x within =
    ap (λ ys. and_all s (all_of m ys)) (drop_more xs i x within) ∙ sym (and_all_assoc s (alone (m (get_or xs i x))) (all_of m (drop (i + 1) xs)))

pub all_done : {X A : Type 0} (m : X → Result A Stop) (s : Result (List A) Stop) (xs : List X) (i : ℕ) (w : Result (List A) Stop) → length xs ≤ i → and_all s (all_of m (drop i xs)) ≡ w → s ≡ w
all_done m s xs i w past h = sym (and_none s) ∙ ap (λ ys. and_all s (all_of m ys)) (sym (drop_all i xs past)) ∙ h

-- ---- elements

pub contains_first : {X : Type 0} (x : X) (xs : List X) (y : X) → x ≡ y → Contains (x ∷ xs) y
contains_first x xs y e = (0, omega arith, e)

pub contains_later : {X : Type 0} (x : X) (xs : List X) (y : X) → Contains xs y → Contains (x ∷ xs) y
contains_later x xs y (k, within, is) = (suc k, omega arith, is)

pub contains_cases : {X : Type 0} (x : X) (xs : List X) (y : X) → Contains (x ∷ xs) y → (x ≡ y) ⊎ Contains xs y
contains_cases x xs y (zero, within, is) = inl is
contains_cases x xs y (suc k, within, is) = inr (k, omega arith, is)

-- ---- what the answers at all tell

module _ {X A : Type 0} (m : X → Result A Stop) where
  ok_by : (x : X) (xs : List X) (a : Result A Stop) (r : Result (List A) Stop) (ys : List A) → m x ≡ a → all_of m xs ≡ r → and_all (alone a) r ≡ Ok ys → (y : A) × (zs : List A) × (m x ≡ Ok y) × (all_of m xs ≡ Ok zs) × (ys ≡ y ∷ zs)
  ok_by x xs (Ok y) (Ok zs) ys is rest e = (y, zs, is, rest, cc)
  ok_by x xs (Ok y) (Err f) ys is rest e = cc
  ok_by x xs (Err f) (Ok zs) ys is rest e = cc
  ok_by x xs (Err f) (Err g) ys is rest e = cc

  pub ok_split : (x : X) (xs : List X) (ys : List A) → all_of m (x ∷ xs) ≡ Ok ys → (y : A) × (zs : List A) × (m x ≡ Ok y) × (all_of m xs ≡ Ok zs) × (ys ≡ y ∷ zs)
  ok_split x xs ys e = ok_by x xs (m x) (all_of m xs) ys refl refl e

  -- none raises, or this is the least that is raised
  abbrev pub Tells : List X → Result (List A) Stop → Type 0
  Tells xs (Ok ys) = (x : X) → Contains xs x → (f : Stop) → m x ≡ Err f → ⊥
  Tells xs (Err e) = ((x : X) × Contains xs x × (m x ≡ Err e)) × ((x : X) → Contains xs x → (f : Stop) → m x ≡ Err f → stop_number e ≤ stop_number f)

  not_both : (x z : X) (y : A) (f : Stop) → m x ≡ Ok y → x ≡ z → m z ≡ Err f → ⊥
  not_both x z y f is same raises = let g : m x ≡ Err f = ap m same ∙ raises in absurd (grind (arith, is, g))

  one_error : (x z : X) (e f : Stop) → m x ≡ Err e → x ≡ z → m z ≡ Err f → e ≡ f
  one_error x z e f is same raises = let g : Err e ≡ Err f = sym is ∙ ap m same ∙ raises in cc

  tells_by : (x : X) (xs : List X) (a : Result A Stop) (r : Result (List A) Stop) → m x ≡ a → Tells xs r → Tells (x ∷ xs) (and_all (alone a) r)
  tells_by x xs (Ok y) (Ok ys) is none = λ z there f raises. ⊎_elim (λ same. not_both x z y f is same raises) (λ c. none z c f raises) (contains_cases x xs z there)
  tells_by x xs (Ok y) (Err e) is (found, least) = (
    (found.0, contains_later x xs found.0 found.1, found.2),
    λ z there f raises. ⊎_elim (λ same. absurd (not_both x z y f is same raises)) (λ c. least z c f raises) (contains_cases x xs z there),
  )
  tells_by x xs (Err e) (Ok ys) is none = (
    (x, contains_first x xs x refl, is),
    λ z there f raises. ⊎_elim (λ same. subst (λ g. stop_number e ≤ stop_number g) (one_error x z e f is same raises) (omega arith)) (λ c. absurd (none z c f raises)) (contains_cases x xs z there),
  )
  tells_by x xs (Err e) (Err g) is (found, least) = (
    lesser_either (λ h. (z : X) × Contains (x ∷ xs) z × (m z ≡ Err h)) e g (x, contains_first x xs x refl, is) (found.0, contains_later x xs found.0 found.1, found.2),
    λ z there f raises. ⊎_elim (λ same. subst (λ h. stop_number (lesser e g) ≤ stop_number h) (one_error x z e f is same raises) (lesser_below e g).0) (λ c. below_too e g f (least z c f raises)) (contains_cases x xs z there),
  )

  pub tells : (xs : List X) → Tells xs (all_of m xs)
  tells [] = λ z there f raises. absurd (omega (arith, there.1))
  tells (x ∷ xs) = tells_by x xs (m x) (all_of m xs) refl (tells xs)

-- ---- one more answer

pub says_meaning : {A W : Type 0} (a : Result A (Fault W)) → Answers a (meaning_of a)
says_meaning (Ok x) = refl
says_meaning (Err (Raised e)) = refl
says_meaning (Err OutOfMemory) = tt
says_meaning (Err (Wanting w)) = tt

pub listed_more : {A B W : Type 0} (f : A → B) (cs : List B) (c : B) (s : Result (List A) Stop) (a : Result A (Fault W)) → IfOk s (λ xs. map f xs ≡ cs) → IfOk a (λ x. f x ≡ c) → IfOk (and_all s (alone (meaning_of a))) (λ xs. map f xs ≡ cs ++ c ∷ [])
listed_more f cs c (Ok xs) (Ok x) so is = map-append f xs (x ∷ []) ∙ (λ i. so i ++ is i ∷ [])
listed_more f cs c (Ok xs) (Err (Raised e)) so is = tt
listed_more f cs c (Ok xs) (Err OutOfMemory) so is = tt
listed_more f cs c (Ok xs) (Err (Wanting w)) so is = tt
listed_more f cs c (Err d) (Ok x) so is = tt
listed_more f cs c (Err d) (Err (Raised e)) so is = tt
listed_more f cs c (Err d) (Err OutOfMemory) so is = tt
listed_more f cs c (Err d) (Err (Wanting w)) so is = tt

pub each_more : {A W : Type 0} (P : A → Type 0) (s : Result (List A) Stop) (a : Result A (Fault W)) → IfOk s (All P) → IfOk a P → IfOk (and_all s (alone (meaning_of a))) (All P)
each_more P (Ok xs) (Ok x) so is = All-push P xs x so is
each_more P (Ok xs) (Err (Raised e)) so is = tt
each_more P (Ok xs) (Err OutOfMemory) so is = tt
each_more P (Ok xs) (Err (Wanting w)) so is = tt
each_more P (Err d) (Ok x) so is = tt
each_more P (Err d) (Err (Raised e)) so is = tt
each_more P (Err d) (Err OutOfMemory) so is = tt
each_more P (Err d) (Err (Wanting w)) so is = tt

pub all_more_at : {X A : Type 0} (m : X → Result A Stop) (s : Result (List A) Stop) (xs : List X) (i : ℕ) (x : X) → i < length xs → x ≡ get_or xs i x
    → and_all s (all_of m (drop i xs)) ≡ and_all (and_all s (alone (m x))) (all_of m (drop (i + 1) xs))
all_more_at m s xs i x within is = all_more m s xs i x within ∙ ap (λ y. and_all (and_all s (alone (m y))) (all_of m (drop (i + 1) xs))) (sym is)

pub at_item : {X : Type 0} (P : X → Type 0) (xs : List X) (i : ℕ) (x : X) → i < length xs → x ≡ get_or xs i x → All P xs → P x
at_item P xs i x within is all = subst P (sym is) (All-get_or P xs i x within all)

-- what holds of what was gathered holds of what is answered
pub finished : {A V W : Type 0} (see : V → List A) (P : List A → Type 0) (r : Result V (Fault W)) (s : Result (List A) Stop) → AnswersBy see r s → IfOk s P → IfOk r (λ v. P (see v))
finished see P (Ok v) s is so = subst (λ t. IfOk t P) is so
finished see P (Err f) s is so = tt

module _ {X A : Type 0} (m : X → Result A Stop) where
  -- each answer is that of one of these, and each of these has its answer there
  pub answers_from : (xs : List X) (ys : List A) (y : A) → all_of m xs ≡ Ok ys → Contains ys y → (x : X) × Contains xs x × (m x ≡ Ok y)
  answers_from [] ys y all there = let none : ys ≡ [] = cc in absurd (omega (arith, (subst (λ zs. Contains zs y) none there).1))
  answers_from (x ∷ xs) ys y all there =
      let (z, zs, is, rest, same) = ok_split m x xs ys all in
      ⊎_elim (λ e. (x, contains_first x xs x refl, is ∙ ap Ok e)) (λ c. let (w, in_, gives) = answers_from xs zs y rest c in (w, contains_later x xs w in_, gives)) (contains_cases z zs y (subst (λ ws. Contains ws y) same there))

  pub answers_there : (xs : List X) (ys : List A) (x : X) (y : A) → all_of m xs ≡ Ok ys → Contains xs x → m x ≡ Ok y → Contains ys y
  answers_there [] ys x y all there gives = absurd (omega (arith, there.1))
  answers_there (w ∷ xs) ys x y all there gives =
      let (z, zs, is, rest, same) = ok_split m w xs ys all in
      subst (λ vs. Contains vs y) (sym same) (⊎_elim (λ e. let h : Ok z ≡ Ok y = sym is ∙ ap m e ∙ gives in let k : z ≡ y = cc in contains_first z zs y k) (λ c. contains_later z zs y (answers_there xs zs x y rest c gives)) (contains_cases w xs x there))

pub all_mapped : {X Y A : Type 0} (m : Y → Result A Stop) (f : X → Y) (xs : List X) → all_of m (map f xs) ≡ all_of (λ x. m (f x)) xs
all_mapped m f [] = refl
all_mapped m f (x ∷ xs) = ap (and_all (alone (m (f x)))) (all_mapped m f xs)

-- the same answers at each of the list
pub all_same : {X A : Type 0} (m n : X → Result A Stop) (xs : List X) → All (λ x. m x ≡ n x) xs → all_of m xs ≡ all_of n xs
all_same m n [] same = refl
all_same m n (x ∷ xs) same = λ i. and_all (alone (same 0 x (omega arith) i)) (all_same m n xs (λ k d lt. same (suc k) d (omega (arith, lt))) i)
