-- What an accepted batch is known by.
use Rattle.std.proofs.Common.{◌≡◌, ℕ, Bool, true, false, cond, List, length, Option, None, Some, Result, Ok, Err, refl, leb, ◌+◌}
use Rattle.std.specs.List.{list_all}
use Rattle.td_stamps.specs.Entries.{in_range}
use Rattle.td_stamps.specs.Checks.{check_of, clash_or, first_clash, fresh_count}
use Rattle.td_stamps.specs.declared.entry.Entry.{Entry}
use Rattle.td_stamps.specs.declared.errors.CheckError.{CheckError}
use Rattle.td_stamps.specs.declared.errors.CheckError.TheVariants.{BadEntry, Full}

pub record Passes (held batch : List Entry) (n : ℕ) : Type 0 where
  pub ranges : list_all in_range batch ≡ true
  pub clear : first_clash held batch ≡ None
  pub fresh : n ≡ fresh_count held batch

by_cases : (ranges : Bool) (clash : Option Entry) (fits : Bool) (fresh n : ℕ) → ◌≡◌ {A = Result ℕ CheckError} (cond ranges (clash_or clash (cond fits (Ok fresh) (Err Full))) (Err BadEntry)) (Ok n)
    → (ranges ≡ true) × (clash ≡ None) × (n ≡ fresh)
by_cases true None true fresh n e = (refl, refl, cc)
by_cases true None false fresh n e = absurd cc
by_cases true (Some x) fits fresh n e = absurd cc
by_cases false clash fits fresh n e = absurd cc

pub passes : (held : List Entry) (limit : ℕ) (batch : List Entry) (n : ℕ) → check_of held limit batch ≡ Ok n → Passes held batch n
passes held limit batch n e =
    let (ranges, clear, fresh) = by_cases (list_all in_range batch) (first_clash held batch) (leb (length held + fresh_count held batch) limit) (fresh_count held batch) n e in
    record { ranges = ranges; clear = clear; fresh = fresh }
