-- What a run of the loop makes of its meetings and of a server, one step after another.
use Rattle.std.specs.Prelude.{◌≡◌, ◌⊎◌, ℕ, List, map, Option, Some, None, option_map, slice_get, slice_set}
use Rattle.http.specs.declared.request.Request.{Request}
use Rattle.http_server.specs.Exchange.{Call}
use Rattle.http_server.specs.declared.response.Response.{Response}
use Rattle.td_event_loop.specs.Chains.{Chain}
use Rattle.td_event_loop.specs.Clients.{ClientStep, clients_of}
use Rattle.td_event_loop.specs.Meetings.{IsNewMeeting, Meeting, TakesTurn, meeting_of}
use Rattle.td_event_loop.specs.declared.event_loop.EventLoop.{EventLoop}
use Rattle.td_event_loop.specs.declared.meets.StepResult.{StepResult}
use Rattle.td_event_loop.specs.declared.peer.Peer.{Peer}

-- the meetings, each in its slot, and the site that meets
pub record Meetings (S : Type 0) : Type 0 where
  pub slots : List (Option Meeting)
  pub site : S

abbrev pub slot_of : Option Peer → Option Meeting
slot_of peer = option_map meeting_of peer

abbrev pub slots_of : List (Option Peer) → List (Option Meeting)
slots_of peers = map slot_of peers

-- A step of the loop that concerns its meetings: what the site holds is kept, a meeting begins, takes its
-- turn, or ends.
pub data MeetingStep {S : Type 0} (keeps : S → S → Type 0) (settles : S → List ℕ → StepResult → S → Type 0) (finishes : S → List ℕ → S → Type 0) : Meetings S → Meetings S → Type 0 where
  kept : {x y : Meetings S} → keeps x.site y.site → y.slots ≡ x.slots → MeetingStep keeps settles finishes x y
  began : {x y : Meetings S} (i : ℕ) (m : Meeting) → IsNewMeeting m → y.slots ≡ slice_set x.slots i (Some m) → y.site ≡ x.site
      → MeetingStep keeps settles finishes x y
  turned : {x y : Meetings S} (i : ℕ) {before : Meeting} {after : Option Meeting} → slice_get x.slots i ≡ Some (Some before)
      → TakesTurn keeps settles finishes before after x.site y.site → y.slots ≡ slice_set x.slots i after → MeetingStep keeps settles finishes x y
  ended : {x y : Meetings S} (i : ℕ) → y.slots ≡ slice_set x.slots i None → y.site ≡ x.site → MeetingStep keeps settles finishes x y

-- such steps, one after another
abbrev pub MeetingsPass : {S : Type 0} → (S → S → Type 0) → (S → List ℕ → StepResult → S → Type 0) → (S → List ℕ → S → Type 0) → List (Option Meeting) → S → List (Option Meeting) → S → Type 0
MeetingsPass keeps settles finishes slots old left new =
    Chain (MeetingStep keeps settles finishes) (record { slots = slots; site = old }) (record { slots = left; site = new })

-- The turn of a slot: the meeting in it takes its turn, and ends at most, of which the site takes note.
abbrev pub TurnsSlot : {S : Type 0} → (S → S → Type 0) → (S → List ℕ → StepResult → S → Type 0) → (S → List ℕ → S → Type 0) → Option Meeting → Option Meeting → S → S → Type 0
TurnsSlot keeps settles finishes None slot old new = (slot ≡ None) × (new ≡ old)
TurnsSlot keeps settles finishes (Some before) (Some after) old new = TakesTurn keeps settles finishes before (Some after) old new
TurnsSlot {S} keeps settles finishes (Some before) None old new =
    (between : S) × TakesTurn keeps settles finishes before None old between × keeps between new

-- a meeting began in this slot, or none did
abbrev pub MayBegin : List (Option Meeting) → ℕ → List (Option Meeting) → Type 0
MayBegin old i new = (new ≡ old) ⊎ ((m : Meeting) × IsNewMeeting m × (new ≡ slice_set old i (Some m)))

-- the clients and the meetings of the loop, each in its slot, and the server
pub record LoopState (S : Type 0) : Type 0 where
  pub clients : List (Option (List Call))
  pub slots : List (Option Meeting)
  pub server : S

abbrev pub state_of : {S : Type 0} → EventLoop → S → LoopState S
state_of held server = record { clients = clients_of held.clients.items; slots = slots_of held.peers.items; server = server }

-- A step of the loop concerns its clients or its meetings.
pub data LoopStep {S : Type 0} (answers : S → Request (List ℕ) → Response → S → Type 0) (keeps : S → S → Type 0) (settles : S → List ℕ → StepResult → S → Type 0) (finishes : S → List ℕ → S → Type 0) : LoopState S → LoopState S → Type 0 where
  served : {x y : LoopState S} → ClientStep answers (record { slots = x.clients; server = x.server }) (record { slots = y.clients; server = y.server })
      → y.slots ≡ x.slots → LoopStep answers keeps settles finishes x y
  met : {x y : LoopState S} → MeetingStep keeps settles finishes (record { slots = x.slots; site = x.server }) (record { slots = y.slots; site = y.server })
      → y.clients ≡ x.clients → LoopStep answers keeps settles finishes x y

-- such steps, one after another
abbrev pub LoopPasses : {S : Type 0} → (S → Request (List ℕ) → Response → S → Type 0) → (S → S → Type 0) → (S → List ℕ → StepResult → S → Type 0) → (S → List ℕ → S → Type 0) → LoopState S → LoopState S → Type 0
LoopPasses answers keeps settles finishes old new = Chain (LoopStep answers keeps settles finishes) old new
