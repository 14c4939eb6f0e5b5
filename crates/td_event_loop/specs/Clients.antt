-- What the loop does with its clients and a server, one step after another.
use Rattle.std.specs.Prelude.{◌≡◌, ℕ, List, [], map, Option, Some, None, option_map, slice_get, slice_set}
use Rattle.http.specs.declared.request.Request.{Request}
use Rattle.http_server.specs.Connection.{history}
use Rattle.http_server.specs.Exchange.{Call, Calls}
use Rattle.http_server.specs.declared.response.Response.{Response}
use Rattle.td_event_loop.specs.Chains.{Chain}
use Rattle.td_event_loop.specs.declared.client.Client.{Client}

-- the requests of the client that were answered, with their responses
abbrev pub calls_of : Client → List Call
calls_of client = (history client.connection).calls

abbrev pub client_of : Option Client → Option (List Call)
client_of client = option_map calls_of client

abbrev pub clients_of : List (Option Client) → List (Option (List Call))
clients_of clients = map client_of clients

-- a client comes, to which nothing was answered, or one goes
pub data ComesOrGoes : List (Option (List Call)) → List (Option (List Call)) → Type 0 where
  comes : {xs ys : List (Option (List Call))} (i : ℕ) → ys ≡ slice_set xs i (Some []) → ComesOrGoes xs ys
  goes : {xs ys : List (Option (List Call))} (i : ℕ) → ys ≡ slice_set xs i None → ComesOrGoes xs ys

-- the clients, each in its slot with what it was answered, and the server
pub record Clients (S : Type 0) : Type 0 where
  pub slots : List (Option (List Call))
  pub server : S

-- A step of the loop that concerns its clients: one comes or goes, or requests that it has sent are answered.
pub data ClientStep {S : Type 0} (answers : S → Request (List ℕ) → Response → S → Type 0) : Clients S → Clients S → Type 0 where
  moved : {x y : Clients S} → ComesOrGoes x.slots y.slots → y.server ≡ x.server → ClientStep answers x y
  answered : {x y : Clients S} (i : ℕ) {before after : List Call} → slice_get x.slots i ≡ Some (Some before)
      → Calls answers x.server y.server before after → y.slots ≡ slice_set x.slots i (Some after) → ClientStep answers x y

-- such steps, one after another
abbrev pub ClientsPass : {S : Type 0} → (S → Request (List ℕ) → Response → S → Type 0) → List (Option (List Call)) → S → List (Option (List Call)) → S → Type 0
ClientsPass answers slots old left new = Chain (ClientStep answers) (record { slots = slots; server = old }) (record { slots = left; server = new })

-- the turn of a slot: requests of the client in it are answered, and it goes at most
abbrev pub TurnsClient : {S : Type 0} → (S → Request (List ℕ) → Response → S → Type 0) → Option (List Call) → Option (List Call) → S → S → Type 0
TurnsClient answers None now old new = (now ≡ None) × (new ≡ old)
TurnsClient answers (Some before) (Some after) old new = Calls answers old new before after
TurnsClient answers (Some before) None old new = (after : List Call) × Calls answers old new before after
