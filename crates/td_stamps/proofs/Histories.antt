-- Histories in parts: lemmas for any state and any step.
use Rattle.std.proofs.Common.{◌≡◌, ℕ, zero, suc, List, [], ◌∷◌, ◌++◌, length, map, take, refl, ap, sym, subst}
use Rattle.td_stamps.specs.declared.entry.Entry.{Entry}
use Rattle.td_stamps.specs.declared.entry.Stamp.{Stamp}
use Rattle.td_stamps.specs.Entries.{stamp_of}
use Rattle.td_stamps.specs.History.{History, nothing_ran, next_ran}

module _ {S O : Type 0} (Step : S → Entry → O → S → Type 0) where
  -- one entry more, at the end
  pub one_more : (s t u : S) (es : List Entry) (os : List (Stamp × O)) (e : Entry) (o : O) → History Step s es os t → Step t e o u → History Step s (es ++ e ∷ []) (os ++ (stamp_of e, o) ∷ []) u
  one_more s t u es os e o nothing_ran now = next_ran now nothing_ran
  one_more s t u es os e o (next_ran {t = v} {es = fs} {os = ps} step rest) now = next_ran step (one_more v t u fs ps e o rest now)

  -- the front of a history is the history of the front
  pub front : (s t : S) (es : List Entry) (os : List (Stamp × O)) → History Step s es os t → (n : ℕ) → (u : S) × History Step s (take n es) (take n os) u
  front s t es os nothing_ran zero = (s, nothing_ran)
  front s t es os nothing_ran (suc n) = (s, nothing_ran)
  front s t es os (next_ran step rest) zero = (s, nothing_ran)
  front s t es os (next_ran {t = v} {es = fs} {os = ps} step rest) (suc n) = let some = front v t fs ps rest n in (some.0, next_ran step some.1)

  -- one outcome for each entry, with its stamp
  pub as_many : (s t : S) (es : List Entry) (os : List (Stamp × O)) → History Step s es os t → length os ≡ length es
  as_many s t es os nothing_ran = refl
  as_many s t es os (next_ran {t = v} {es = fs} {os = ps} step rest) = ap suc (as_many v t fs ps rest)

  pub stamps : (s t : S) (es : List Entry) (os : List (Stamp × O)) → History Step s es os t → map (λ p. p.0) os ≡ map stamp_of es
  stamps s t es os nothing_ran = refl
  stamps s t es os (next_ran {t = v} {e = e} {es = fs} {os = ps} step rest) = ap (λ l. stamp_of e ∷ l) (stamps v t fs ps rest)

  -- what each step keeps holds after the history
  pub kept : (P : S → Type 0) → ((s t : S) (e : Entry) (o : O) → Step s e o t → P s → P t) → (s t : S) (es : List Entry) (os : List (Stamp × O)) → History Step s es os t → P s → P t
  kept P keeps s t es os nothing_ran first = first
  kept P keeps s t es os (next_ran {t = v} {e = e} {es = fs} {o = o} {os = ps} step rest) first = kept P keeps v t fs ps rest (keeps s v e o step first)

-- the step has one outcome, and leaves one state
abbrev pub HasOneEnd : {S O : Type 0} → (S → Entry → O → S → Type 0) → Type 0
HasOneEnd {S = S} {O = O} Step = (s t u : S) (e : Entry) (o p : O) → Step s e o t → Step s e p u → (o ≡ p) × (t ≡ u)

-- a step that has one end makes a history that has one
pub one_history : {S O : Type 0} (Step : S → Entry → O → S → Type 0) → HasOneEnd Step → (s t u : S) (es : List Entry) (os ps : List (Stamp × O)) → History Step s es os t → History Step s es ps u → (os ≡ ps) × (t ≡ u)
one_history Step one s t u es os ps nothing_ran nothing_ran = (refl, refl)
one_history Step one s t u es os ps (next_ran {t = v} {e = e} {es = fs} {o = o} {os = qs} step rest) (next_ran {t = w} {o = p} {os = rs} other others) =
    let same = one s v w e o p step other in
    let behind = one_history Step one v t u fs qs rs rest (subst (λ x. History Step x fs rs u) (sym same.1) others) in
    (λ i. (stamp_of e, same.0 i) ∷ behind.0 i, behind.1)
