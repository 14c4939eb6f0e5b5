-- Executions of many sites that meet only now and then (the tentative writes of Terry et al. 1995, Bayou). A list of
-- entries stands here for the set of them, whatever its order and repeats.
use Rattle.std.specs.Prelude.{◌≡◌, ◌⊎◌, ℕ, ◌≤◌, true, ◌==◌, if◌then◌else◌, List, [], ◌∷◌, length, Ok}
use Rattle.td_stamps.specs.declared.entry.Entry.{Entry}
use Rattle.td_stamps.specs.Sets.{has}
use Rattle.td_stamps.specs.Checks.{next_of}

-- what each site holds, what was ever issued, and what was ever sent
pub record GlobalState : Type 0 where
  pub held : ℕ → List Entry
  pub issued : List Entry
  pub sent : List Entry

abbrev pub initial_state : GlobalState
initial_state = record { held = λ site. []; issued = []; sent = [] }

-- a site issues a text of a dialect, an entry that a site holds is sent, an entry comes to a site, a site comes back
-- with these entries
pub data Event : Type 0 where
  issue : ℕ → ℕ → List ℕ → Event
  send : ℕ → Entry → Event
  deliver : ℕ → Entry → Event
  reopen : ℕ → List Entry → Event

-- one site's set becomes another
abbrev pub with_held : (ℕ → List Entry) → ℕ → List Entry → ℕ → List Entry
with_held held site es t = if t == site then es else held t

abbrev pub with_issued : GlobalState → ℕ → Entry → GlobalState
with_issued w site e = record { held = with_held w.held site (e ∷ w.held site); issued = e ∷ w.issued; sent = w.sent }

abbrev pub with_sent : GlobalState → Entry → GlobalState
with_sent w e = record { held = w.held; issued = w.issued; sent = e ∷ w.sent }

abbrev pub with_set : GlobalState → ℕ → List Entry → GlobalState
with_set w site es = record { held = with_held w.held site es; issued = w.issued; sent = w.sent }

abbrev pub new_entry : ℕ → ℕ × ℕ → ℕ → List ℕ → Entry
new_entry site n dialect text = record { site = site; seq = n.0; clock = n.1; dialect = dialect; text = text }

-- A site issues any text, of dialect 1 or 2 and of at most 8,192 bytes, with its next numbers, as long as these are in
-- their ranges. What was sent comes to any site, late, again, or never. A site that comes back has lost no entry of its
-- own that was sent.
abbrev pub Happens : GlobalState → Event → GlobalState → Type 0
Happens w (issue site dialect text) v =
    (n : ℕ × ℕ) × (next_of site (w.held site) ≡ Ok n) × (1 ≤ dialect) × (dialect ≤ 2) × (length text ≤ 8192) × (v ≡ with_issued w site (new_entry site n dialect text))
Happens w (send site e) v = (has (w.held site) e ≡ true) × (v ≡ with_sent w e)
Happens w (deliver site e) v = (has w.sent e ≡ true) × (v ≡ with_set w site (e ∷ w.held site))
Happens w (reopen site es) v =
    ((e : Entry) → has es e ≡ true → has (w.held site) e ≡ true) × ((e : Entry) → e.site ≡ site → has w.sent e ≡ true → has es e ≡ true) × (v ≡ with_set w site es)

-- these events, of which the last stands first, lead to the state
abbrev pub Reached : List Event → GlobalState → Type 0
Reached [] w = w ≡ initial_state
Reached (ev ∷ evs) w = (before : GlobalState) × Reached evs before × Happens before ev w

-- a site holds the entry, or it was sent
abbrev pub IsKnown : GlobalState → Entry → Type 0
IsKnown w e = (has w.sent e ≡ true) ⊎ ((site : ℕ) × (has (w.held site) e ≡ true))

-- no site comes back with a part of what it held
abbrev pub NoneReopens : List Event → Type 0
NoneReopens [] = Unit {0}
NoneReopens (reopen site es ∷ evs) = ⊥
NoneReopens (ev ∷ evs) = NoneReopens evs
