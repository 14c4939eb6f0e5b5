-- The records of a history name the places of its entries.
use Rattle.std.proofs.Common.{◌≡◌, ◌↔◌, ⊎_elim, ℕ, Bool, true, false, if◌then◌else◌, List, ◌∷◌, refl, sym, subst, ◌∙◌}
use mathlib.Core.Bool.{true≢false}
use Rattle.std.specs.List.{Contains}
use Rattle.td_stamps.specs.declared.entry.Entry.{Entry}
use Rattle.td_stamps.specs.declared.entry.Stamp.{Stamp}
use Rattle.td_stamps.specs.Entries.{same}
use Rattle.td_stamps.specs.Sets.{has}
use Rattle.td_stamps.specs.History.{nothing_ran, next_ran}
use Rattle.td_stamps.proofs.EntryLemmas.{same-is, same-refl}
use Rattle.td_rollback.specs.Counts.{recorded}
use Rattle.td_rollback.specs.Laws.{RecordsName}
use Rattle.td_rollback.proofs.Members.{has_cases, has_none}

module _ {S R : Type 0} (Sound : S → Type 0) (Step : S → Entry → R → S → Type 0) (Places : Entry → ℕ → Type 0) (names_in : R → List ℕ) (stay : (s t : S) (e : Entry) (r : R) → Sound s → Step s e r t → Sound t) (name : (s t : S) (e : Entry) (r : R) → Sound s → Step s e r t → (n : ℕ) → Contains (names_in r) n ↔ Places e n) where
  by_first : (b : Bool) (e f : Entry) (es : List Entry) (r : R) (log : List (Stamp × R)) → same f e ≡ b → ((n : ℕ) → Contains (names_in r) n ↔ Places e n) → (has es f ≡ true → (n : ℕ) → Contains (recorded names_in es log f) n ↔ Places f n) → has (e ∷ es) f ≡ true → (n : ℕ) → Contains (if b then names_in r else recorded names_in es log f) n ↔ Places f n
  by_first true e f es r log is here there h = subst (λ (x : Entry). (n : ℕ) → Contains (names_in r) n ↔ Places x n) (sym (same-is f e is)) here
  by_first false e f es r log is here there h = there (⊎_elim (λ one. absurd (true≢false (sym (subst (λ (x : Entry). same f x ≡ true) one (same-refl f)) ∙ is))) (λ later. later) (has_cases e f es h))

  pub records_name : RecordsName Sound Step Places names_in
  records_name s t es log good nothing_ran = λ f h. has_none f h
  records_name s t es log good (next_ran {t = v} {e = e} {es = fs} {o = r} {os = more} step rest) = λ f h. by_first (same f e) e f fs r more refl (name s v e r good step) (records_name v t fs more (stay s v e r good step) rest f) h
