-- The law of the crate.
use Rattle.std.specs.Prelude.{◌≡◌, ℕ, List, Ok}
use Rattle.td_semantics.specs.declared.outcome.Outcome.{Outcome}
use Rattle.td_replica.specs.Calls.{Issues}
use Rattle.td_replica.specs.Seen.{Seen}
use Rattle.td_replica.specs.declared.calls.Issued.{Issued}
use Rattle.td_trials.specs.Trials.{Tries}

-- a statement that is issued has the outcome of its trial
abbrev pub IssueDoesAsTried : Type 0
IssueDoesAsTried =
    (s : Seen) (text : List ℕ) (outcome : Outcome) → Tries s text (Ok outcome) → (issued : Issued) (after : Seen) → Issues s text (Ok issued) after
    → issued.outcome ≡ outcome
