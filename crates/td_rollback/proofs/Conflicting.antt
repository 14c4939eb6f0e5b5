-- Old entries are marked one after the other.
use Rattle.std.proofs.Common.{◌≡◌, ◌<◌, ◌≤◌, ◌+◌, ⊎_elim, ℕ, Bool, true, false, List, [], ◌∷◌, ◌++◌, append_assoc, append-nil, drop, get_or, length, refl, ap, sym, subst, ◌∙◌}
use Rattle.std.proofs.lemmas.List.{drop_all, drop_more}
use Rattle.td_stamps.specs.declared.entry.Entry.{Entry}
use Rattle.td_rollback.specs.Parts.{unmarked}
use Rattle.td_rollback.specs.ForProofs.Marked.{MarkConflicts}
use Rattle.td_rollback.proofs.Members.{item_cases, item_none}

module _ (Commute : Entry → Entry → Type 0) where
  -- with these marks in front of any that the entries behind may have
  abbrev pub MarkFront : (Entry → Type 0) → (Entry → Type 0) → List Bool → ℕ → List Entry → Type 0
  MarkFront Was Now marks i old = (rest : List Bool) → MarkConflicts Commute Now rest (drop i old) → MarkConflicts Commute Was (marks ++ rest) old

  first_mark : (Was Now : Entry → Type 0) (b : Bool) (e : Entry) (es : List Entry) (rest : List Bool) → ((x : Entry) → Was x → Now x) → (b ≡ false → (x : Entry) → Was x → Commute x e) → (b ≡ true → Now e) → MarkConflicts Commute Now rest es → MarkConflicts Commute Was (b ∷ rest) (e ∷ es)
  first_mark Was Now true e es rest grows commutes covered behind = record { within = (behind.with_these e (covered refl), behind.within); with_these = λ x h. behind.with_these x (grows x h) }
  first_mark Was Now false e es rest grows commutes covered behind = record {
    within = behind.within;
    with_these = λ x h f is. ⊎_elim (λ one. subst (Commute x) one (commutes refl x h)) (λ later. behind.with_these x (grows x h) f later) (item_cases e f (unmarked rest es) is);
  }

  pub one_mark : (Begun Was Now : Entry → Type 0) (marks : List Bool) (old : List Entry) (i : ℕ) (e : Entry) (b : Bool) → i < length old → e ≡ get_or old i e → ((x : Entry) → Was x → Now x) → (b ≡ false → (x : Entry) → Was x → Commute x e) → (b ≡ true → Now e) → MarkFront Begun Was marks i old
      → MarkFront Begun Now (marks ++ b ∷ []) (i + 1) old
  one_mark Begun Was Now marks old i e b lt is grows commutes covered front rest behind =
      let first : drop i old ≡ e ∷ drop (i + 1) old = drop_more old i e lt ∙ ap (λ (x : Entry). x ∷ drop (i + 1) old) (sym is) in
      let here : MarkConflicts Commute Was (b ∷ rest) (drop i old) = subst (MarkConflicts Commute Was (b ∷ rest)) (sym first) (first_mark Was Now b e (drop (i + 1) old) rest grows commutes covered behind) in
      subst (λ (bs : List Bool). MarkConflicts Commute Begun bs old) (sym (append_assoc marks (b ∷ []) rest)) (front (b ∷ rest) here)

  none_behind : (Now : Entry → Type 0) → MarkConflicts Commute Now [] []
  none_behind Now = record { within = tt; with_these = λ x h f is. item_none f is }

  pub all_marks : (Was Now : Entry → Type 0) (marks : List Bool) (i : ℕ) (old : List Entry) → length old ≤ i → MarkFront Was Now marks i old → MarkConflicts Commute Was marks old
  all_marks Was Now marks i old all front =
      subst (λ (bs : List Bool). MarkConflicts Commute Was bs old) (append-nil marks) (front [] (subst (MarkConflicts Commute Now []) (sym (drop_all i old all)) (none_behind Now)))
