-- Steps of the loop that concern its clients.
use Rattle.std.proofs.Common.{◌≡◌, inl, inr, ◌⊎◌, ℕ, List, [], Option, Some, None, option_map, refl, sym, ◌∙◌, ap, subst, get_or, slice_get, slice_set}
use Rattle.std.proofs.lemmas.List.{map-set, set-get_or, set-set}
use Rattle.http.specs.declared.request.Request.{Request}
use Rattle.http_server.specs.Exchange.{Call, Calls}
use Rattle.http_server.specs.declared.response.Response.{Response}
use Rattle.td_event_loop.specs.Chains.{Chain, nothing, onward}
use Rattle.td_event_loop.specs.Clients.{ClientsPass, ComesOrGoes, TurnsClient, answered, calls_of, client_of, clients_of, comes, goes, moved}
use Rattle.td_event_loop.specs.declared.client.Client.{Client}
use Rattle.td_event_loop.proofs.Passing.{slice_get-map}

-- a client with the same calls leaves the slots as they are
pub same_clients : (clients : List (Option Client)) (i : ℕ) (before now : Option Client) → before ≡ get_or clients i before → client_of now ≡ client_of before
    → clients_of (slice_set clients i now) ≡ clients_of clients
same_clients clients i before now here same =
    map-set client_of clients i now ∙ ap (slice_set (clients_of clients) i) same ∙ sym (map-set client_of clients i before)
    ∙ ap clients_of (ap (slice_set clients i) here ∙ set-get_or clients i before)

-- a client comes
pub came : (clients left : List (Option Client)) (i : ℕ) (client : Client) → calls_of client ≡ [] → left ≡ slice_set clients i (Some client)
    → Chain ComesOrGoes (clients_of clients) (clients_of left)
came clients left i client none put =
    onward (comes i (ap clients_of put ∙ map-set client_of clients i (Some client) ∙ ap (λ calls. slice_set (clients_of clients) i (Some calls)) none)) nothing

-- a client keeps its calls, or goes
pub sent_rest : (clients : List (Option Client)) (i : ℕ) (before now : Option Client) → before ≡ get_or clients i before
    → (client_of now ≡ client_of before) ⊎ (now ≡ None) → Chain ComesOrGoes (clients_of clients) (clients_of (slice_set clients i now))
sent_rest clients i before now here (inl same) = subst (λ left. Chain ComesOrGoes (clients_of clients) left) (sym (same_clients clients i before now here same)) nothing
sent_rest clients i before now here (inr none) =
    onward (goes i (map-set client_of clients i now ∙ ap (λ (slot : Option Client). slice_set (clients_of clients) i (client_of slot)) none)) nothing

module _ {S : Type 0} (answers : S → Request (List ℕ) → Response → S → Type 0) where
  served_turn : (slots : List (Option (List Call))) (i : ℕ) (before now : Option (List Call)) (old new : S) → slice_get slots i ≡ Some before
      → TurnsClient answers before now old new → ClientsPass answers slots old (slice_set slots i now) new
  served_turn slots i None now old new there turn = onward (moved (goes i (ap (slice_set slots i) turn.0)) turn.1) nothing
  served_turn slots i (Some before) (Some after) old new there turn = onward (answered i there turn refl) nothing
  served_turn slots i (Some before) None old new there turn =
      onward (answered i there turn.1 refl) (onward (moved (goes i (sym (set-set slots i (Some turn.0) None))) refl) nothing)

  -- a slot has its turn
  pub client_turn : (clients : List (Option Client)) (i : ℕ) (before now : Option Client) (old new : S) → slice_get clients i ≡ Some before
      → TurnsClient answers (client_of before) (client_of now) old new
      → ClientsPass answers (clients_of clients) old (clients_of (slice_set clients i now)) new
  client_turn clients i before now old new there turn =
      let slot = slice_get-map client_of clients i ∙ ap (option_map client_of) there in
      subst (λ slots. ClientsPass answers (clients_of clients) old slots new) (sym (map-set client_of clients i now))
      (served_turn (clients_of clients) i (client_of before) (client_of now) old new slot turn)

  -- the client of a slot went in its turn
  pub went : (slot : Option Client) (client : Client) (after : List Call) (old new : S) → slot ≡ Some client → Calls answers old new (calls_of client) after
      → TurnsClient answers (client_of slot) None old new
  went slot client after old new is calls = subst (λ (s : Option Client). TurnsClient answers (client_of s) None old new) (sym is) (after, calls)
