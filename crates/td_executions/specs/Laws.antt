-- The laws of executions, for every list of events, and of calls, over any number of sites.
use Rattle.std.specs.Prelude.{◌≡◌, ℕ, true, false, List, None}
use Rattle.td_stamps.specs.declared.entry.Entry.{Entry}
use Rattle.td_stamps.specs.Entries.{clash}
use Rattle.td_stamps.specs.Sets.{has}
use Rattle.td_stamps.specs.Checks.{first_clash}
use Rattle.td_executions.specs.GlobalStates.{GlobalState, Event, Reached, IsKnown, NoneReopens}
use Rattle.td_executions.specs.Calls.{Sets, Call, AllSent, Done, Mirrors}

-- no two entries clash
abbrev pub ExecutionHasNoClash : Type 0
ExecutionHasNoClash = (evs : List Event) (w : GlobalState) → Reached evs w → (e f : Entry) → IsKnown w e → IsKnown w f → clash e f ≡ false

-- what was sent is held by the site that issued it
abbrev pub SentIsHeld : Type 0
SentIsHeld = (evs : List Event) (w : GlobalState) → Reached evs w → (e : Entry) → has w.sent e ≡ true → has (w.held e.site) e ≡ true

-- without reopenings so is what was issued
abbrev pub IssuedIsHeld : Type 0
IssuedIsHeld = (evs : List Event) (w : GlobalState) → Reached evs w → NoneReopens evs → (e : Entry) → has w.issued e ≡ true → has (w.held e.site) e ≡ true

-- whatever calls are made, there are events that lead to the same
abbrev pub CallsAreEvents : Type 0
CallsAreEvents = (cs : List Call) (w : Sets) → Done cs w → (evs : List Event) × (u : GlobalState) × Reached evs u × Mirrors w u

-- so no batch of what was sent is ever refused for a clash
abbrev pub NoCallClashes : Type 0
NoCallClashes = (cs : List Call) (w : Sets) → Done cs w → (site : ℕ) (batch : List Entry) → AllSent w batch → first_clash (w.held site) batch ≡ None
