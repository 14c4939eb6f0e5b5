-- Flags on new entries, one after the other.
use Rattle.std.proofs.Common.{◌≡◌, ◌<◌, ◌≤◌, ◌+◌, ◌-◌, ℕ, zero, suc, Bool, true, false, List, [], ◌∷◌, ◌++◌, append_assoc, append-nil, drop, get_or, length, length-drop, replicate, refl, ap, sym, subst, ◌∙◌, arith}
use Rattle.std.proofs.lemmas.List.{drop_all, drop_more}
use Rattle.td_stamps.specs.declared.entry.Entry.{Entry}
use Rattle.td_stamps.specs.Entries.{same}
use Rattle.td_stamps.specs.Sets.{has}
use Rattle.td_stamps.proofs.EntryLemmas.{same-is}
use Rattle.td_rollback.specs.Parts.{marked}
use Rattle.td_rollback.specs.Touched.{AreMore}
use Rattle.td_rollback.specs.ForProofs.Marked.{AreFlagged, new_one, no_more, old_one}
use Rattle.td_rollback.proofs.More as more

abbrev pub Flagged : List Entry → List Entry → ℕ → ℕ → List Bool → Type 0
Flagged old new at i flags = (rest : List Bool) → AreFlagged (drop at old) rest (drop i new) → AreFlagged old (flags ++ rest) new

-- those that are flagged were chosen
abbrev pub Chosen : List Entry → ℕ → List Bool → List Entry → Type 0
Chosen new i flags fresh = (rest : List Bool) → marked (flags ++ rest) new ≡ fresh ++ marked rest (drop i new)

module _ (new : List Entry) (i : ℕ) (e : Entry) (within : i < length new) (is : e ≡ get_or new i e) where
  new_is : drop i new ≡ e ∷ drop (i + 1) new
  new_is = drop_more new i e within ∙ ap (λ (x : Entry). x ∷ drop (i + 1) new) (sym is)

  module _ (flags : List Bool) (fresh : List Entry) (chosen : Chosen new i flags fresh) where
    next_chosen : (b : Bool) (rest : List Bool) → marked ((flags ++ b ∷ []) ++ rest) new ≡ fresh ++ marked (b ∷ rest) (e ∷ drop (i + 1) new)
    next_chosen b rest = ap (λ (fl : List Bool). marked fl new) (append_assoc flags (b ∷ []) rest) ∙ chosen (b ∷ rest) ∙ ap (λ (es : List Entry). fresh ++ marked (b ∷ rest) es) new_is

    pub old_chosen : Chosen new (i + 1) (flags ++ false ∷ []) fresh
    old_chosen rest = next_chosen false rest

    pub new_chosen : Chosen new (i + 1) (flags ++ true ∷ []) (fresh ++ e ∷ [])
    new_chosen rest = next_chosen true rest ∙ sym (append_assoc fresh (e ∷ []) (marked rest (drop (i + 1) new)))

module _ (old new : List Entry) (at i : ℕ) (flags : List Bool) (e : Entry) (within : i < length new) (is : e ≡ get_or new i e) (among : AreMore (drop at old) (drop i new)) (flagged : Flagged old new at i flags) where
  among_first : AreMore (drop at old) (e ∷ drop (i + 1) new)
  among_first = subst (λ (fs : List Entry). AreMore (drop at old) fs) (new_is new i e within is) among

  with_next : (b : Bool) (rest : List Bool) → AreFlagged (drop at old) (b ∷ rest) (e ∷ drop (i + 1) new) → AreFlagged old ((flags ++ b ∷ []) ++ rest) new
  with_next b rest h =
      subst (λ (fl : List Bool). AreFlagged old fl new) (sym (append_assoc flags (b ∷ []) rest))
      (flagged (b ∷ rest) (subst (λ (fs : List Entry). AreFlagged (drop at old) (b ∷ rest) fs) (sym (new_is new i e within is)) h))

  module _ (y : Entry) (in_old : at < length old) (at_is : y ≡ get_or old at y) (one : same e y ≡ true) where
    old_is : drop at old ≡ e ∷ drop (at + 1) old
    old_is = drop_more old at y in_old ∙ ap (λ (x : Entry). x ∷ drop (at + 1) old) (sym at_is ∙ sym (same-is e y one))

    pub old_more : AreMore (drop (at + 1) old) (drop (i + 1) new)
    old_more = more.old_on e (drop (at + 1) old) (drop (i + 1) new) (subst (λ (es : List Entry). AreMore es (e ∷ drop (i + 1) new)) old_is among_first)

    pub old_flagged : Flagged old new (at + 1) (i + 1) (flags ++ false ∷ [])
    old_flagged rest h = with_next false rest (subst (λ (es : List Entry). AreFlagged es (false ∷ rest) (e ∷ drop (i + 1) new)) (sym old_is) (old_one h))

  pub lacks_end : length old ≤ at → has (drop at old) e ≡ false
  lacks_end all = subst (λ (es : List Entry). has es e ≡ false) (sym (drop_all at old all)) refl

  pub lacks_other : (y : Entry) → at < length old → y ≡ get_or old at y → same e y ≡ false → has (drop at old) e ≡ false
  lacks_other y in_old at_is other =
      let old_is : drop at old ≡ y ∷ drop (at + 1) old = drop_more old at y in_old ∙ ap (λ (x : Entry). x ∷ drop (at + 1) old) (sym at_is) in
      subst (λ (es : List Entry). has es e ≡ false) (sym old_is)
      (more.other_is_fresh e y (drop (at + 1) old) (drop (i + 1) new) other (subst (λ (es : List Entry). AreMore es (e ∷ drop (i + 1) new)) old_is among_first))

  module _ (lacks : has (drop at old) e ≡ false) where
    pub new_more : AreMore (drop at old) (drop (i + 1) new)
    new_more = more.fresh_on e (drop at old) (drop (i + 1) new) lacks among_first

    pub new_flagged : Flagged old new at (i + 1) (flags ++ true ∷ [])
    new_flagged rest h = with_next true rest (new_one lacks h)

-- ---- once as many are left of both
all_flagged : (es : List Entry) → AreFlagged es (replicate (length es) false) es
all_flagged [] = no_more
all_flagged (e ∷ es) = old_one (all_flagged es)

none_chosen : (n : ℕ) (es : List Entry) → marked (replicate n false) es ≡ []
none_chosen zero es = refl
none_chosen (suc n) [] = refl
none_chosen (suc n) (e ∷ es) = none_chosen n es

module _ (old new : List Entry) (at i n : ℕ) (flags : List Bool) (many : n ≡ length new - i) where
  left : n ≡ length (drop i new)
  left = many ∙ sym (length-drop i new)

  pub flagged_end : AreMore (drop at old) (drop i new) → length new - i ≤ length old - at → Flagged old new at i flags → AreFlagged old (flags ++ replicate n false) new
  flagged_end among few flagged =
      let in_old = length-drop at old in
      let in_new = length-drop i new in
      let one : drop at old ≡ drop i new = more.all_old (drop at old) (drop i new) among (omega (arith, few, in_old, in_new)) in
      flagged (replicate n false) (subst (λ (es : List Entry). AreFlagged es (replicate n false) (drop i new)) (sym one)
      (subst (λ (m : ℕ). AreFlagged (drop i new) (replicate m false) (drop i new)) (sym left) (all_flagged (drop i new))))

pub chosen_end : (new : List Entry) (i n : ℕ) (flags : List Bool) (fresh : List Entry) → Chosen new i flags fresh → fresh ≡ marked (flags ++ replicate n false) new
chosen_end new i n flags fresh chosen = sym (chosen (replicate n false) ∙ ap (λ (es : List Entry). fresh ++ es) (none_chosen n (drop i new)) ∙ append-nil fresh)
