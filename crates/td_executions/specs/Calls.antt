-- Calls on many sites, as their contracts tell them of the sets that the sites hold. Each list of calls is one of
-- events.
use Rattle.std.specs.Prelude.{◌≡◌, ℕ, ◌≤◌, true, List, [], ◌∷◌, ◌++◌, length, Ok}
use Rattle.td_stamps.specs.declared.entry.Entry.{Entry}
use Rattle.td_stamps.specs.Sets.{has, union, is_set}
use Rattle.td_stamps.specs.Checks.{next_of}
use Rattle.td_executions.specs.GlobalStates.{GlobalState, with_held, new_entry}

-- the set that each site holds, and what was ever sent
pub record Sets : Type 0 where
  pub held : ℕ → List Entry
  pub sent : List Entry

abbrev pub no_sets : Sets
no_sets = record { held = λ site. []; sent = [] }

-- a site issues a text of a dialect; it writes frames of these entries; it takes these as one batch; it comes back with
-- these
pub data Call : Type 0 where
  issues : ℕ → ℕ → List ℕ → Call
  sends : ℕ → List Entry → Call
  takes : ℕ → List Entry → Call
  comes_back : ℕ → List Entry → Call

abbrev pub with_one : Sets → ℕ → List Entry → Sets
with_one w site es = record { held = with_held w.held site es; sent = w.sent }

abbrev pub with_all_sent : Sets → List Entry → Sets
with_all_sent w es = record { held = w.held; sent = es ++ w.sent }

-- the site holds each of them
abbrev pub AllHeld : Sets → ℕ → List Entry → Type 0
AllHeld w site es = (e : Entry) → has es e ≡ true → has (w.held site) e ≡ true

-- each of them was sent
abbrev pub AllSent : Sets → List Entry → Type 0
AllSent w es = (e : Entry) → has es e ≡ true → has w.sent e ≡ true

-- what the site sent of its own is among them
abbrev pub KeepsSent : Sets → ℕ → List Entry → Type 0
KeepsSent w site es = (e : Entry) → e.site ≡ site → has w.sent e ≡ true → has es e ≡ true

-- what one call makes of the sets: an entry with the next numbers of a set comes last in it, and a batch of what was
-- sent is joined to it
abbrev pub Does : Sets → Call → Sets → Type 0
Does w (issues site dialect text) v =
    (n : ℕ × ℕ) × (next_of site (w.held site) ≡ Ok n) × (1 ≤ dialect) × (dialect ≤ 2) × (length text ≤ 8192)
    × (v ≡ with_one w site (w.held site ++ new_entry site n dialect text ∷ []))
Does w (sends site es) v = AllHeld w site es × (v ≡ with_all_sent w es)
Does w (takes site es) v = AllSent w es × (v ≡ with_one w site (union (w.held site) es))
Does w (comes_back site es) v = (is_set es ≡ true) × AllHeld w site es × KeepsSent w site es × (v ≡ with_one w site es)

-- these calls, of which the last stands first, lead to the sets
abbrev pub Done : List Call → Sets → Type 0
Done [] w = w ≡ no_sets
Done (c ∷ cs) w = (before : Sets) × Done cs before × Does before c w

-- in the state each site holds what it holds here, and the same was sent
pub record Mirrors (w : Sets) (u : GlobalState) : Type 0 where
  pub held : (site : ℕ) (e : Entry) → has (w.held site) e ≡ has (u.held site) e
  pub sent : (e : Entry) → has w.sent e ≡ has u.sent e
  pub sets : (site : ℕ) → is_set (w.held site) ≡ true
