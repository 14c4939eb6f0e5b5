-- What a statement would do at a site that stays as it is.
use Rattle.std.specs.Prelude.{◌≡◌, ℕ, List, Result, Ok, Err}
use Rattle.td_semantics.specs.declared.outcome.Outcome.{Outcome}
use Rattle.td_replica.specs.Calls.{Issues}
use Rattle.td_replica.specs.Seen.{Seen}
use Rattle.td_replica.specs.declared.calls.Issued.{Issued}
use Rattle.td_replica.specs.declared.refusal.IssueError.{IssueError}

-- issuing the text has this outcome and leaves some state, or is refused for this cause and leaves the site as it was
abbrev pub Tries : Seen → List ℕ → Result Outcome IssueError → Type 0
Tries s text (Ok outcome) = (issued : Issued) × (after : Seen) × Issues s text (Ok issued) after × (issued.outcome ≡ outcome)
Tries s text (Err error) = Issues s text (Err error) s
