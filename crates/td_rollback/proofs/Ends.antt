-- The end of a history, taken off; and what two sets of entries begin with alike.
use Rattle.std.proofs.Common.{◌≡◌, ◌↔◌, ◌≤◌, ◌<◌, ◌+◌, IfOk, Result, Ok, Err, ℕ, zero, suc, List, [], ◌∷◌, ◌++◌, drop, take, get_or, length, length-append, true, refl, ap, sym, subst, ◌∙◌, arith}
use Rattle.std.specs.List.{Contains}
use Rattle.std.proofs.lemmas.List.{drop_more, take_more}
use Rattle.td_stamps.specs.declared.entry.Entry.{Entry}
use Rattle.td_stamps.specs.declared.entry.Stamp.{Stamp}
use Rattle.td_stamps.specs.Entries.{same, stamp_of}
use Rattle.td_stamps.specs.History.{History, nothing_ran, next_ran}
use Rattle.td_stamps.proofs.EntryLemmas.{same-refl}
use Rattle.td_stamps.proofs.Histories as histories
use Rattle.td_rollback.specs.Going.{AreAlikeBut}
use Rattle.td_rollback.specs.Touched.{AreMore, Runs, fresh, touched, untouched}
use Rattle.td_rollback.specs.ForProofs.Ways.{Way}
use Rattle.td_rollback.proofs.Members.{has_behind, has_none}
use Rattle.td_rollback.proofs.More.{not_fresh}
use Rattle.td_rollback.proofs.Selecting as selecting

module _ {S R : Type 0} (Step : S → Entry → R → S → Type 0) where
  pub record Ended (s : S) (es : List Entry) (ps : List (Stamp × R)) (e : Entry) (p : Stamp × R) (u : S) : Type 0 where
    pub state : S
    pub history : History Step s es ps state
    pub step : Step state e p.1 u
    pub stamp : p.0 ≡ stamp_of e

  longer : (s t u : S) (x e : Entry) (r : R) (es : List Entry) (ps : List (Stamp × R)) (p : Stamp × R) → Step s x r t → Ended t es ps e p u → Ended s (x ∷ es) ((stamp_of x, r) ∷ ps) e p u
  longer s t u x e r es ps p step k = record { state = k.state; history = next_ran step k.history; step = k.step; stamp = k.stamp }

  pub last_off : (s u : S) (es : List Entry) (ps : List (Stamp × R)) (e : Entry) (p : Stamp × R) → History Step s (es ++ e ∷ []) (ps ++ p ∷ []) u → Ended s es ps e p u
  last_off s u [] [] e p (next_ran step nothing_ran) = record { state = s; history = nothing_ran; step = step; stamp = refl }
  last_off s u [] (q ∷ ps) e p st = absurd (let n = histories.as_many Step s u (e ∷ []) (q ∷ (ps ++ p ∷ [])) st in let k = length-append ps (p ∷ []) in omega (arith, n, k))
  last_off s u (x ∷ es) [] e p st = absurd (let n = histories.as_many Step s u (x ∷ (es ++ e ∷ [])) (p ∷ []) st in let k = length-append es (e ∷ []) in omega (arith, n, k))
  last_off s u (x ∷ es) (q ∷ ps) e p (next_ran {t = t} {o = r} step rest) = longer s t u x e r es ps p step (last_off t u es ps e p rest)

-- ---- what is at the front of both is not run
module _ (F T : Entry → ℕ → Type 0) where
  inside : (x y : Entry) (xs ys : List Entry) (n : ℕ) → x ≡ y → Runs F T [] (x ∷ xs) (y ∷ ys) n → Runs F T [] xs ys n
  inside x y xs ys n one (fresh lacks p) = not_fresh y x xs (subst (λ (z : Entry). same y z ≡ true) (sym one) (same-refl y)) lacks
  inside x y xs ys n one (touched is h p) = has_none h.2.0 h.2.1
  inside x y xs ys n one (untouched is h p) = p

  pub runs_behind : (k : ℕ) (es fs : List Entry) (n : ℕ) → take k es ≡ take k fs → Runs F T [] es fs n → Runs F T [] (drop k es) (drop k fs) n
  runs_behind zero es fs n alike h = h
  runs_behind (suc k) [] [] n alike h = h
  runs_behind (suc k) [] (f ∷ fs) n alike h = cc
  runs_behind (suc k) (e ∷ es) [] n alike h = cc
  runs_behind (suc k) (e ∷ es) (f ∷ fs) n alike h =
      let first : e ≡ f = cc in
      let rest : take k es ≡ take k fs = cc in
      runs_behind k es fs n rest (inside e f es fs n first h)

-- ---- two histories, one after the other
pub joined : {S R : Type 0} (Step : S → Entry → R → S → Type 0) (s t u : S) (es fs : List Entry) (ps qs : List (Stamp × R)) → History Step s es ps t → History Step t fs qs u → History Step s (es ++ fs) (ps ++ qs) u
joined Step s t u es fs ps qs nothing_ran after = after
joined Step s t u es fs ps qs (next_ran {t = v} {es = gs} {os = os} step rest) after = next_ran step (joined Step v t u gs fs os qs rest after)

-- ---- one entry less
module _ {S R : Type 0} (w : Way S R) (s : S) (good : w.Sound s) (es : List Entry) (ps : List (Stamp × R)) (i : ℕ) (d : Stamp × R) (x : Entry) (in_es : i < length es) (in_ps : i < length ps) (u : S) (st : History w.Step s (take (i + 1) es) (take (i + 1) ps) u) where
  abbrev pub e : Entry
  e = get_or es i x

  abbrev pub p : Stamp × R
  p = get_or ps i d

  pub off : Ended w.Step s (take i es) (take i ps) e p u
  off = last_off w.Step s u (take i es) (take i ps) e p (subst (λ (qs : List (Stamp × R)). History w.Step s (take i es ++ e ∷ []) qs u) (take_more ps i d in_ps) (subst (λ (fs : List Entry). History w.Step s fs (take (i + 1) ps) u) (take_more es i x in_es) st))

  pub off_sound : w.Sound off.state
  off_sound = histories.kept w.Step w.Sound (λ a b f r step h. w.goes.stay_sound a b f r h step) s off.state (take i es) (take i ps) off.history good

  pub off_behind : (last : S) → History w.Step u (drop (i + 1) es) (drop (i + 1) ps) last → History w.Step off.state (drop i es) (drop i ps) last
  off_behind last behind =
      let here = next_ran off.step behind in
      let first : (stamp_of e, p.1) ∷ drop (i + 1) ps ≡ drop i ps = ap (λ (k : Stamp). (k, p.1) ∷ drop (i + 1) ps) (sym off.stamp) ∙ sym (drop_more ps i d in_ps) in
      subst (λ (fs : List Entry). History w.Step off.state fs (drop i ps) last) (sym (drop_more es i x in_es))
      (subst (λ (qs : List (Stamp × R)). History w.Step off.state (e ∷ drop (i + 1) es) qs last) first here)

  pub off_targets : (n : ℕ) → Contains (w.targets_in p.1) n ↔ w.Target e n
  off_targets = w.goes.name_targets off.state u e p.1 off_sound off.step

  -- where its targets alone change
  pub off_elsewhere : (k : ℕ) → k ≤ i → (t v : S) → AreAlikeBut w.Alike w.Target (drop k es) t u → ((n : ℕ) → (Contains (w.targets_in p.1) n → ⊥) → w.Alike u v n) → AreAlikeBut w.Alike w.Target (drop k es) t v
  off_elsewhere k le t v same change = selecting.one_changes w (drop k es) e t u v (has_behind k es i x le in_es) same (λ n never. change n (λ h. never ((off_targets n).0 h)))

-- the entry at the place, and its record
module _ {S R : Type 0} (w : Way S R) (s : S) (good : w.Sound s) (es : List Entry) (ps : List (Stamp × R)) (last : S) (st : History w.Step s es ps last) (i : ℕ) (d : Stamp × R) (x : Entry) (in_es : i < length es) (in_ps : i < length ps) where
  pub step_at : (t : S) × (u : S) × w.Sound t × w.Step t (get_or es i x) (get_or ps i d).1 u
  step_at =
      let front = histories.front w.Step s last es ps st (i + 1) in
      let k = off w s good es ps i d x in_es in_ps front.0 front.1 in
      (k.state, front.0, off_sound w s good es ps i d x in_es in_ps front.0 front.1, k.step)

  pub targets_at : (n : ℕ) → Contains (w.targets_in (get_or ps i d).1) n ↔ w.Target (get_or es i x) n
  targets_at = let front = histories.front w.Step s last es ps st (i + 1) in off_targets w s good es ps i d x in_es in_ps front.0 front.1

-- ---- alike but for targets of old entries, and so but for those of the new ones
pub alike_behind : {S : Type 0} (Target : Entry → ℕ → Type 0) (Alike : S → S → ℕ → Type 0) (es fs : List Entry) → AreMore es fs → (s t : S) → AreAlikeBut Alike Target es s t → AreAlikeBut Alike Target fs s t
alike_behind Target Alike es fs more s t same n never = same n (λ h. never (h.0, more.among h.0 h.1, h.2))

-- ---- the front that stays, and what comes behind it
pub if_more : {A E : Type 0} (m : Result A E) (P Q : A → Type 0) → ((a : A) → Q a → P a) → IfOk m Q → IfOk m P
if_more (Ok a) P Q more h = more a h
if_more (Err e) P Q more h = h

rejoined : {X : Type 0} (k : ℕ) (xs : List X) → take k xs ++ drop k xs ≡ xs
rejoined zero xs = refl
rejoined (suc k) [] = refl
rejoined (suc k) (x ∷ xs) = ap (λ l. x ∷ l) (rejoined k xs)

pub with_front : {S R : Type 0} (Step : S → Entry → R → S → Type 0) (first mid last : S) (old all : List Entry) (k : ℕ) (ps qs : List (Stamp × R)) → take k old ≡ take k all → History Step first (take k old) ps mid → History Step mid (drop k all) qs last → History Step first all (ps ++ qs) last
with_front Step first mid last old all k ps qs alike front behind =
    subst (λ (es : List Entry). History Step first es (ps ++ qs) last) (rejoined k all)
    (joined Step first mid last (take k all) (drop k all) ps qs (subst (λ (es : List Entry). History Step first es ps mid) alike front) behind)
