-- Chains of steps of the loop.
use Rattle.std.proofs.Common.{◌≡◌, inl, inr, ℕ, zero, suc, List, [], ◌∷◌, map, Option, Some, None, option_map, refl, sym, ◌∙◌, ap, subst, get_or, slice_get, slice_set}
use Rattle.std.proofs.lemmas.List.{map-set, set-get_or}
use Rattle.http.specs.declared.request.Request.{Request}
use Rattle.http_server.specs.Exchange.{Call}
use Rattle.http_server.specs.declared.response.Response.{Response}
use Rattle.td_event_loop.specs.Chains.{Chain, nothing, onward}
use Rattle.td_event_loop.specs.Clients.{ClientStep, ClientsPass, ComesOrGoes, moved}
use Rattle.td_event_loop.specs.Meetings.{IsNewMeeting, Meeting, meeting_of}
use Rattle.td_event_loop.specs.Runs.{LoopPasses, LoopStep, MayBegin, MeetingStep, MeetingsPass, TurnsSlot, kept, met, served, began, turned, ended, slot_of, slots_of}
use Rattle.td_event_loop.specs.declared.meets.StepResult.{StepResult}
use Rattle.td_event_loop.specs.declared.peer.Peer.{Peer}

pub chain_then : {S : Type 0} {Step : S → S → Type 0} {s t u : S} → Chain Step s t → Chain Step t u → Chain Step s u
chain_then nothing later = later
chain_then (onward step rest) later = onward step (chain_then rest later)

-- a chain of other steps, of what f makes of the states
pub chain_of : {S U : Type 0} {Step : S → S → Type 0} (Other : U → U → Type 0) (f : S → U)
    → ((s t : S) → Step s t → Other (f s) (f t)) → {s t : S} → Chain Step s t → Chain Other (f s) (f t)
chain_of Other f each nothing = nothing
chain_of Other f each (onward {s} {t} step rest) = onward (each s t step) (chain_of Other f each rest)

pub slice_get-map : {A B : Type 0} (f : A → B) (xs : List A) (i : ℕ) → slice_get (map f xs) i ≡ option_map f (slice_get xs i)
slice_get-map f [] i = refl
slice_get-map f (x ∷ xs) zero = refl
slice_get-map f (x ∷ xs) (suc i) = slice_get-map f xs i

-- a meeting begins
pub begun : (peers left : List (Option Peer)) (i : ℕ) (peer : Peer) → IsNewMeeting (meeting_of peer) → left ≡ slice_set peers i (Some peer)
    → MayBegin (slots_of peers) i (slots_of left)
begun peers left i peer empty put = inr (meeting_of peer, empty, ap slots_of put ∙ map-set slot_of peers i (Some peer))

-- a peer that is at the same stage, over the same bytes, leaves the slots as they are
pub same_slots : (peers : List (Option Peer)) (i : ℕ) (before now : Option Peer) → before ≡ get_or peers i before → slot_of now ≡ slot_of before
    → slots_of (slice_set peers i now) ≡ slots_of peers
same_slots peers i before now here same =
    map-set slot_of peers i now ∙ ap (slice_set (slots_of peers) i) same ∙ sym (map-set slot_of peers i before)
    ∙ ap slots_of (ap (slice_set peers i) here ∙ set-get_or peers i before)

module _ {S : Type 0} (keeps : S → S → Type 0) (settles : S → List ℕ → StepResult → S → Type 0) (finishes : S → List ℕ → S → Type 0) where
  -- calls that keep what the site holds leave the meetings as they are
  pub pass_kept : (slots left : List (Option Meeting)) (old new : S) → left ≡ slots → Chain keeps old new → MeetingsPass keeps settles finishes slots old left new
  pass_kept slots left old new same calls =
      subst (λ now. MeetingsPass keeps settles finishes slots old now new) (sym same)
      (chain_of (MeetingStep keeps settles finishes) (λ site. record { slots = slots; site = site }) (λ s t call. kept call refl) calls)

  pub pass_same : (slots left now : List (Option Meeting)) (old new : S) → MeetingsPass keeps settles finishes slots old left new → now ≡ left
      → MeetingsPass keeps settles finishes slots old now new
  pass_same slots left now old new passed same = subst (λ last. MeetingsPass keeps settles finishes slots old last new) (sym same) passed

  -- a meeting may begin
  pub pass_begin : (slots : List (Option Meeting)) (i : ℕ) (left : List (Option Meeting)) (site : S) → MayBegin slots i left → MeetingsPass keeps settles finishes slots site left site
  pass_begin slots i left site (inl same) = subst (λ now. MeetingsPass keeps settles finishes slots site now site) (sym same) nothing
  pass_begin slots i left site (inr (m, empty, put)) = onward (began i m empty put refl) nothing

  -- a slot has its turn
  pub pass_turn : (slots : List (Option Meeting)) (i : ℕ) (before now : Option Meeting) (old new : S) → slice_get slots i ≡ Some before
      → TurnsSlot keeps settles finishes before now old new → MeetingsPass keeps settles finishes slots old (slice_set slots i now) new
  pass_turn slots i None now old new there turn = onward (ended i (ap (slice_set slots i) turn.0) turn.1) nothing
  pass_turn slots i (Some before) (Some after) old new there turn = onward (turned i there turn refl) nothing
  pass_turn slots i (Some before) None old new there turn = onward (turned i there turn.1 refl) (onward (kept turn.2 refl) nothing)

  pub pass_peer : (peers : List (Option Peer)) (i : ℕ) (before now : Option Peer) (old new : S) → slice_get peers i ≡ Some before
      → TurnsSlot keeps settles finishes (slot_of before) (slot_of now) old new
      → MeetingsPass keeps settles finishes (slots_of peers) old (slots_of (slice_set peers i now)) new
  pass_peer peers i before now old new there turn =
      let slot = slice_get-map slot_of peers i ∙ ap (option_map slot_of) there in
      subst (λ slots. MeetingsPass keeps settles finishes (slots_of peers) old slots new) (sym (map-set slot_of peers i now))
      (pass_turn (slots_of peers) i (slot_of before) (slot_of now) old new slot turn)

  -- a slot is emptied, once the site has taken note
  pub pass_stop : (peers : List (Option Peer)) (i : ℕ) (now : Option Peer) (old new : S) → Chain keeps old new → now ≡ None
      → MeetingsPass keeps settles finishes (slots_of peers) old (slots_of (slice_set peers i now)) new
  pass_stop peers i now old new calls none =
      let emptied : slots_of (slice_set peers i now) ≡ slice_set (slots_of peers) i None = map-set slot_of peers i now ∙ ap (λ slot. slice_set (slots_of peers) i (slot_of slot)) none in
      chain_then (pass_kept (slots_of peers) (slots_of peers) old new refl calls) (onward (ended i emptied refl) nothing)

module _ {S : Type 0} (answers : S → Request (List ℕ) → Response → S → Type 0) (keeps : S → S → Type 0) (settles : S → List ℕ → StepResult → S → Type 0) (finishes : S → List ℕ → S → Type 0) where
  pub loop_met : (clients now : List (Option (List Call))) (slots left : List (Option Meeting)) (old new : S) → now ≡ clients
      → MeetingsPass keeps settles finishes slots old left new
      → LoopPasses answers keeps settles finishes (record { clients = clients; slots = slots; server = old }) (record { clients = now; slots = left; server = new })
  loop_met clients now slots left old new same steps =
      subst (λ cs. LoopPasses answers keeps settles finishes (record { clients = clients; slots = slots; server = old }) (record { clients = cs; slots = left; server = new })) (sym same)
      (chain_of (LoopStep answers keeps settles finishes) (λ x. record { clients = clients; slots = x.slots; server = x.site }) (λ x y step. met step refl) steps)

  pub loop_served : (clients now : List (Option (List Call))) (slots left : List (Option Meeting)) (old new : S) → left ≡ slots
      → ClientsPass answers clients old now new
      → LoopPasses answers keeps settles finishes (record { clients = clients; slots = slots; server = old }) (record { clients = now; slots = left; server = new })
  loop_served clients now slots left old new same steps =
      subst (λ ms. LoopPasses answers keeps settles finishes (record { clients = clients; slots = slots; server = old }) (record { clients = now; slots = ms; server = new })) (sym same)
      (chain_of (LoopStep answers keeps settles finishes) (λ x. record { clients = x.slots; slots = slots; server = x.server }) (λ x y step. served step refl) steps)

  pub loop_moved : (clients now : List (Option (List Call))) (slots left : List (Option Meeting)) (old : S) → left ≡ slots
      → Chain ComesOrGoes clients now
      → LoopPasses answers keeps settles finishes (record { clients = clients; slots = slots; server = old }) (record { clients = now; slots = left; server = old })
  loop_moved clients now slots left old same steps =
      loop_served clients now slots left old old same (chain_of (ClientStep answers) (λ xs. record { slots = xs; server = old }) (λ xs ys step. moved step refl) steps)

  -- nothing changed of the loop
  pub loop_same : (clients now : List (Option (List Call))) (slots left : List (Option Meeting)) (old : S) → now ≡ clients → left ≡ slots
      → LoopPasses answers keeps settles finishes (record { clients = clients; slots = slots; server = old }) (record { clients = now; slots = left; server = old })
  loop_same clients now slots left old same alike = loop_met clients now slots left old old same (subst (λ ms. MeetingsPass keeps settles finishes slots old ms old) (sym alike) nothing)
