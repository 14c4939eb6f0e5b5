-- A batch that has nothing fresh adds nothing.
use Rattle.std.proofs.Common.{◌≡◌, ℕ, ◌+◌, Bool, true, false, ◌||◌, if◌then◌else◌, List, [], ◌∷◌, ◌++◌, length, Option, Some, None, Result, Ok, Err, refl, sym, subst, ◌∙◌, inl, inr, arith}
use Rattle.std.specs.Prelude.{IsOk, nat_le}
use mathlib.Core.Bool.{false≢true}
use Rattle.std.specs.List.{list_all}
use Rattle.std.proofs.lemmas.Bool.{or_cases}
use Rattle.std.proofs.lemmas.List.Folds.{list_any-append}
use Rattle.td_stamps.specs.declared.entry.Entry.{Entry}
use Rattle.td_stamps.specs.declared.errors.CheckError.{CheckError}
use Rattle.td_stamps.specs.declared.errors.CheckError.TheVariants.{BadEntry, Full}
use Rattle.td_stamps.specs.Entries.{same, in_range}
use Rattle.td_stamps.specs.Sets.{has, union}
use Rattle.td_stamps.specs.Checks.{check_of, clash_or, first_clash, fresh_count}
use Rattle.td_stamps.specs.Laws.{KnownAddsNothing}
use Rattle.td_stamps.proofs.EntryLemmas.{same-is}
use Rattle.td_stamps.proofs.Merges.{same_set}
use Rattle.td_stamps.proofs.SetLemmas.{adds_up, fits}

-- an entry that is not fresh was seen
seen_first : (b : Bool) (n : ℕ) → (if b then 0 else 1) + n ≡ 0 → (b ≡ true) × (n ≡ 0)
seen_first true n h = (refl, omega arith)
seen_first false n h = absurd (omega arith)

pub none_fresh : (seen batch : List Entry) → fresh_count seen batch ≡ 0 → (z : Entry) → has batch z ≡ true → has seen z ≡ true
none_fresh seen [] h z in' = absurd (false≢true in')
none_fresh seen (e ∷ es) h z in' =
    let first = seen_first (has seen e) (fresh_count (seen ++ e ∷ []) es) h in
    elim (or_cases _ _ in') [
      | inl is ↦ subst (λ (v : Entry). has seen v ≡ true) (sym (same-is z e is)) first.0
      | inr later ↦ elim (or_cases _ _ (sym (list_any-append (same z) seen (e ∷ [])) ∙ none_fresh (seen ++ e ∷ []) es first.1 z later)) [
        | inl before ↦ before
        | inr now ↦ elim (or_cases _ _ now) [
          | inl is ↦ subst (λ (v : Entry). has seen v ≡ true) (sym (same-is z e is)) first.0
          | inr none ↦ absurd (false≢true none)
        ]
      ]
    ]

-- what an Ok counts
room_counts : (b : Bool) (f n : ℕ) → ◌≡◌ {A = Result ℕ CheckError} (if b then Ok f else Err Full) (Ok n) → f ≡ n
room_counts true f n h = cc
room_counts false f n h = cc

clash_counts : (o : Option Entry) (b : Bool) (f n : ℕ) → clash_or o (if b then Ok f else Err Full) ≡ Ok n → f ≡ n
clash_counts None b f n h = room_counts b f n h
clash_counts (Some e) b f n h = cc

range_counts : (r : Bool) (o : Option Entry) (b : Bool) (f n : ℕ) → (if r then clash_or o (if b then Ok f else Err Full) else Err BadEntry) ≡ Ok n → f ≡ n
range_counts true o b f n h = clash_counts o b f n h
range_counts false o b f n h = cc

pub counted : (held : List Entry) (limit : ℕ) (batch : List Entry) (n : ℕ) → check_of held limit batch ≡ Ok n → fresh_count held batch ≡ n
counted held limit batch n h = range_counts (list_all in_range batch) (first_clash held batch) (nat_le (length held + fresh_count held batch) limit) (fresh_count held batch) n h

absorbed : (a b : Bool) → (b ≡ true → a ≡ true) → (a || b) ≡ a
absorbed true b h = refl
absorbed false true h = sym (h refl)
absorbed false false h = refl

pub known_adds_nothing : KnownAddsNothing
known_adds_nothing held limit batch set h =
    let up = adds_up held held batch (λ p. refl) set (fits held limit batch (subst (λ r. IsOk r) (sym h) refl)).clear in
    same_set (union held batch) held up.set set (λ z. up.members (same z) ∙ absorbed (has held z) (has batch z) (none_fresh held batch (counted held limit batch 0 h) z))
