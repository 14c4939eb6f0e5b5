-- Histories in two parts: what is marked, and what is not.
use Rattle.std.proofs.Common.{◌≡◌, ◌≤◌, ◌&&◌, ◌||◌, ◌⊎◌, inl, inr, ⊎_elim, ℕ, zero, suc, Result, Ok, Err, Bool, true, false, List, [], ◌∷◌, drop, take, length, refl, ap, sym, subst, arith}
use mathlib.Core.Bool.{true≢false}
use Rattle.std.specs.Prelude.{OnErr, OnOk}
use Rattle.std.specs.List.{list_all}
use Rattle.td_stamps.specs.declared.entry.Entry.{Entry}
use Rattle.td_stamps.specs.declared.entry.Stamp.{Stamp}
use Rattle.td_stamps.specs.Entries.{same}
use Rattle.td_stamps.specs.Sets.{apart, has, is_set}
use Rattle.td_stamps.specs.History.{History, nothing_ran, next_ran}
use Rattle.td_stamps.proofs.SetLemmas.{first_holds, rest_holds}
use Rattle.td_rollback.specs.Parts.{AreMarked, CommutesWith, marked, unmarked, interleaved}
use Rattle.td_rollback.specs.Touched.{AreMore}
use Rattle.td_rollback.specs.ForProofs.Marked.{AreFlagged, AreParted, MarkConflicts, new_one, no_more, old_one, with_flagged}
use Rattle.td_rollback.proofs.Members.{has_cases, has_first, has_later, has_none, item_later}

both_hold : (a b : Bool) → a ≡ true → b ≡ true → (a && b) ≡ true
both_hold true b p q = q
both_hold false b p q = p

first_fails : (a b : Bool) → (a || b) ≡ false → a ≡ false
first_fails true b h = h
first_fails false b h = refl

rest_fails : (a b : Bool) → (a || b) ≡ false → b ≡ false
rest_fails true b h = absurd (true≢false h)
rest_fails false b h = h

neither_holds : (a b : Bool) → a ≡ false → b ≡ false → (a || b) ≡ false
neither_holds true b p q = p
neither_holds false b p q = q

-- ---- marks on old and new entries
all_of_marked : (p : Entry → Bool) (bs : List Bool) (es : List Entry) → list_all p es ≡ true → list_all p (marked bs es) ≡ true
all_of_marked p [] es h = refl
all_of_marked p (b ∷ bs) [] h = refl
all_of_marked p (true ∷ bs) (e ∷ es) h = both_hold (p e) (list_all p (marked bs es)) (first_holds (p e) (list_all p es) h) (all_of_marked p bs es (rest_holds (p e) (list_all p es) h))
all_of_marked p (false ∷ bs) (e ∷ es) h = all_of_marked p bs es (rest_holds (p e) (list_all p es) h)

set_of_marked : (bs : List Bool) (es : List Entry) → is_set es ≡ true → is_set (marked bs es) ≡ true
set_of_marked [] es h = refl
set_of_marked (b ∷ bs) [] h = refl
set_of_marked (true ∷ bs) (e ∷ es) h =
    both_hold (list_all (apart e) (marked bs es)) (is_set (marked bs es)) (all_of_marked (apart e) bs es (first_holds (list_all (apart e) es) (is_set es) h)) (set_of_marked bs es (rest_holds (list_all (apart e) es) (is_set es) h))
set_of_marked (false ∷ bs) (e ∷ es) h = set_of_marked bs es (rest_holds (list_all (apart e) es) (is_set es) h)

pub lacks_marked : (x : Entry) (bs : List Bool) (es : List Entry) → has es x ≡ false → has (marked bs es) x ≡ false
lacks_marked x [] es h = refl
lacks_marked x (b ∷ bs) [] h = refl
lacks_marked x (true ∷ bs) (e ∷ es) h = neither_holds (same x e) (has (marked bs es) x) (first_fails (same x e) (has es x) h) (lacks_marked x bs es (rest_fails (same x e) (has es x) h))
lacks_marked x (false ∷ bs) (e ∷ es) h = lacks_marked x bs es (rest_fails (same x e) (has es x) h)

-- by the flags of those that are not old, where there is a mark for each old one
pub unmarked_same : (es fs : List Entry) (flags bs : List Bool) → AreFlagged es flags fs → length bs ≡ length es → unmarked (with_flagged flags bs) fs ≡ unmarked bs es
unmarked_same es fs flags [] no_more each = refl
unmarked_same es fs flags (b ∷ bs) no_more each = absurd (omega (arith, each))
unmarked_same es fs flags bs (new_one {flags = gs} {fs = hs} lacks rest) each = unmarked_same es hs gs bs rest each
unmarked_same es fs flags [] (old_one rest) each = absurd (omega (arith, each))
unmarked_same es fs flags (true ∷ bs) (old_one {flags = gs} {es = ds} {fs = hs} rest) each = unmarked_same ds hs gs bs rest (omega (arith, each))
unmarked_same es fs flags (false ∷ bs) (old_one {flags = gs} {es = ds} {fs = hs} {e = e} rest) each = ap (λ l. e ∷ l) (unmarked_same ds hs gs bs rest (omega (arith, each)))

marked_among : (es fs : List Entry) (flags bs : List Bool) → AreFlagged es flags fs → length bs ≡ length es → (x : Entry) → has (marked bs es) x ≡ true → has (marked (with_flagged flags bs) fs) x ≡ true
marked_among es fs flags [] no_more each x h = h
marked_among es fs flags (b ∷ bs) no_more each x h = absurd (omega (arith, each))
marked_among es fs flags bs (new_one {flags = gs} {fs = hs} {e = e} lacks rest) each x h = has_later e x (marked (with_flagged gs bs) hs) (marked_among es hs gs bs rest each x h)
marked_among es fs flags [] (old_one rest) each x h = absurd (omega (arith, each))
marked_among es fs flags (true ∷ bs) (old_one {flags = gs} {es = ds} {fs = hs} {e = e} rest) each x h = ⊎_elim
    (λ is. subst (λ (y : Entry). has (e ∷ marked (with_flagged gs bs) hs) y ≡ true) (sym is) (has_first e (marked (with_flagged gs bs) hs)))
    (λ later. has_later e x (marked (with_flagged gs bs) hs) (marked_among ds hs gs bs rest (omega (arith, each)) x later))
    (has_cases e x (marked bs ds) h)
marked_among es fs flags (false ∷ bs) (old_one {flags = gs} {es = ds} {fs = hs} rest) each x h = marked_among ds hs gs bs rest (omega (arith, each)) x h

pub marked_more : (es fs : List Entry) (flags bs : List Bool) → AreFlagged es flags fs → length bs ≡ length es → AreMore es fs → AreMore (marked bs es) (marked (with_flagged flags bs) fs)
marked_more es fs flags bs flagged each more = record {
  old_set = set_of_marked bs es more.old_set;
  new_set = set_of_marked (with_flagged flags bs) fs more.new_set;
  among = marked_among es fs flags bs flagged each;
}

-- what is marked of all is marked of the old ones, or flagged
pub came : (es fs : List Entry) (flags bs : List Bool) → AreFlagged es flags fs → length bs ≡ length es → (x : Entry) → has (marked (with_flagged flags bs) fs) x ≡ true → (has (marked bs es) x ≡ true) ⊎ (has (marked flags fs) x ≡ true)
came es fs flags bs no_more each x h = has_none x h
came es fs flags bs (new_one {flags = gs} {fs = hs} {e = e} lacks rest) each x h = ⊎_elim
    (λ one. inr (subst (λ (y : Entry). has (e ∷ marked gs hs) y ≡ true) (sym one) (has_first e (marked gs hs))))
    (λ later. ⊎_elim (λ old. inl old) (λ new. inr (has_later e x (marked gs hs) new)) (came es hs gs bs rest each x later))
    (has_cases e x (marked (with_flagged gs bs) hs) h)
came es fs flags [] (old_one rest) each x h = absurd (omega (arith, each))
came es fs flags (true ∷ bs) (old_one {flags = gs} {es = ds} {fs = hs} {e = e} rest) each x h = ⊎_elim
    (λ one. inl (subst (λ (y : Entry). has (e ∷ marked bs ds) y ≡ true) (sym one) (has_first e (marked bs ds))))
    (λ later. ⊎_elim (λ old. inl (has_later e x (marked bs ds) old)) (λ new. inr new) (came ds hs gs bs rest (omega (arith, each)) x later))
    (has_cases e x (marked (with_flagged gs bs) hs) h)
came es fs flags (false ∷ bs) (old_one {flags = gs} {es = ds} {fs = hs} rest) each x h = came ds hs gs bs rest (omega (arith, each)) x h

-- ---- marks by which entries commute
module _ (Commute : Entry → Entry → Type 0) where
  pub as_many_marks : (bs : List Bool) (es : List Entry) → AreMarked Commute bs es → length bs ≡ length es
  as_many_marks [] [] keep = refl
  as_many_marks [] (e ∷ es) keep = absurd keep
  as_many_marks (b ∷ bs) [] keep = absurd keep
  as_many_marks (true ∷ bs) (e ∷ es) keep = ap suc (as_many_marks bs es keep.1)
  as_many_marks (false ∷ bs) (e ∷ es) keep = ap suc (as_many_marks bs es keep)

  -- each fresh one commutes with what is not marked
  all_marked : (es fs : List Entry) (flags bs : List Bool) → AreFlagged es flags fs → AreMarked Commute bs es → ((x : Entry) → has (marked flags fs) x ≡ true → CommutesWith Commute x (unmarked bs es)) → AreMarked Commute (with_flagged flags bs) fs
  all_marked es fs flags [] no_more keep apart_from = tt
  all_marked es fs flags (b ∷ bs) no_more keep apart_from = absurd keep
  all_marked es fs flags bs (new_one {flags = gs} {fs = hs} {e = e} lacks rest) keep apart_from = (
    subst (CommutesWith Commute e) (sym (unmarked_same es hs gs bs rest (as_many_marks bs es keep))) (apart_from e (has_first e (marked gs hs))),
    all_marked es hs gs bs rest keep (λ x h. apart_from x (has_later e x (marked gs hs) h)),
  )
  all_marked es fs flags [] (old_one rest) keep apart_from = absurd keep
  all_marked es fs flags (true ∷ bs) (old_one {flags = gs} {es = ds} {fs = hs} {e = e} rest) keep apart_from =
      (subst (CommutesWith Commute e) (sym (unmarked_same ds hs gs bs rest (as_many_marks bs ds keep.1))) keep.0, all_marked ds hs gs bs rest keep.1 apart_from)
  all_marked es fs flags (false ∷ bs) (old_one {flags = gs} {es = ds} {fs = hs} {e = e} rest) keep apart_from =
      all_marked ds hs gs bs rest keep (λ x h f is. apart_from x h f (item_later e f (unmarked bs ds) is))

  pub parted : (These : Entry → Type 0) (es fs : List Entry) (flags bs cs : List Bool) → AreFlagged es flags fs → MarkConflicts Commute These bs es → cs ≡ with_flagged flags bs → ((x : Entry) → has (marked flags fs) x ≡ true → These x) → AreParted Commute es fs bs cs
  parted These es fs flags bs cs flagged marks cs_is fresh = record {
    flags = flags;
    flagged = flagged;
    marks_are = cs_is;
    old = marks.within;
    new = subst (λ (xs : List Bool). AreMarked Commute xs fs) (sym cs_is) (all_marked es fs flags bs flagged marks.within (λ x h. marks.with_these x (fresh x h)));
  }

pub none_marked : {X : Type 0} (bs : List Bool) → marked {X = X} bs [] ≡ []
none_marked [] = refl
none_marked (b ∷ bs) = refl

pub none_unmarked : {X : Type 0} (bs : List Bool) → unmarked {X = X} bs [] ≡ []
none_unmarked [] = refl
none_unmarked (b ∷ bs) = refl

-- ---- a history cut in two
pub cut : {S R : Type 0} (Step : S → Entry → R → S → Type 0) (s t : S) (es : List Entry) (log : List (Stamp × R)) → History Step s es log t → (n : ℕ) → (u : S) × History Step s (take n es) (take n log) u × History Step u (drop n es) (drop n log) t
cut Step s t es log nothing_ran zero = (s, nothing_ran, nothing_ran)
cut Step s t es log nothing_ran (suc n) = (s, nothing_ran, nothing_ran)
cut Step s t es log (next_ran step rest) zero = (s, nothing_ran, next_ran step rest)
cut Step s t es log (next_ran {t = v} {es = fs} {os = ps} step rest) (suc n) = let two = cut Step v t fs ps rest n in (two.0, next_ran step two.1, two.2)

pub on_ok : {A E P Q : Type 0} (m : Result A E) → (P → Q) → OnOk m P → OnOk m Q
on_ok (Ok a) f h = f h
on_ok (Err e) f h = h

pub on_err : {A E P Q : Type 0} (m : Result A E) → (P → Q) → OnErr m P → OnErr m Q
on_err (Ok a) f h = h
on_err (Err e) f h = f h

pub within_room : {A E : Type 0} (m : Result A E) (l n k most : ℕ) → n ≤ most → k ≤ most → OnOk m (l ≤ n) → OnErr m (l ≡ k) → l ≤ most
within_room (Ok a) l n k most le few h j = omega (arith, h, le)
within_room (Err e) l n k most le few h j = omega (arith, j, few)

-- ---- what is parted and not replayed is put together as it was
pub interleaved_back : {X : Type 0} (bs : List Bool) (xs : List X) → length bs ≡ length xs → interleaved bs (marked bs xs) (unmarked bs xs) ≡ xs
interleaved_back [] [] each = refl
interleaved_back [] (x ∷ xs) each = absurd (omega (arith, each))
interleaved_back (b ∷ bs) [] each = absurd (omega (arith, each))
interleaved_back (true ∷ bs) (x ∷ xs) each = ap (λ l. x ∷ l) (interleaved_back bs xs (omega (arith, each)))
interleaved_back (false ∷ bs) (x ∷ xs) each = ap (λ l. x ∷ l) (interleaved_back bs xs (omega (arith, each)))

pub fewer_interleaved : {X : Type 0} (bs : List Bool) (xs ys : List X) → length (interleaved bs xs ys) ≤ length bs
fewer_interleaved [] xs ys = omega arith
fewer_interleaved (true ∷ bs) [] ys = let le = fewer_interleaved bs [] ys in omega (arith, le)
fewer_interleaved (true ∷ bs) (x ∷ xs) ys = let le = fewer_interleaved bs xs ys in omega (arith, le)
fewer_interleaved (false ∷ bs) xs [] = let le = fewer_interleaved bs xs [] in omega (arith, le)
fewer_interleaved (false ∷ bs) xs (y ∷ ys) = let le = fewer_interleaved bs xs ys in omega (arith, le)

pub fewer_marked : {X : Type 0} (bs : List Bool) (xs : List X) → length (marked bs xs) ≤ length xs
fewer_marked [] xs = omega arith
fewer_marked (b ∷ bs) [] = omega arith
fewer_marked (true ∷ bs) (x ∷ xs) = let le = fewer_marked bs xs in omega (arith, le)
fewer_marked (false ∷ bs) (x ∷ xs) = let le = fewer_marked bs xs in omega (arith, le)
