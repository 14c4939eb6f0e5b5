-- The rights of the call that a body gives are those of its resource.
use Rattle.std.proofs.Common.{◌≡◌, subst}
use Rattle.json.specs.Json.{Json}
use Rattle.td_client_tokens.specs.declared.token.ClientToken.{ClientToken}
use Rattle.td_http_api.specs.declared.calls.ApiCall.{ApiCall}
use Rattle.td_http_api.specs.declared.calls.ApiCall.TheVariants.{Site, Client, Relvars, Table, Refused, Attention, Log, Script, Schema, Digest, Metrics, Query, Statement, Trial, Acknowledge, AcknowledgeAlarms, Meet, Stop}
use Rattle.td_http_api.specs.declared.resources.Resource.{Resource}
use Rattle.td_http_api.specs.Guards.{Permits}
use Rattle.td_http_api.specs.Requests.{GivesInBody}
use Rattle.td_http_api.specs.Resources.{row_of}
use Rattle.td_http_api.specs.Rights.{MayMake}

module _ (token : ClientToken) (resource : Resource) (body : Json) where
  of : (other : Resource) → resource ≡ other → Permits token (row_of resource).right → Permits token (row_of other).right
  of other same covers = subst (λ r. Permits token (row_of r).right) same covers

  pub body_rights : (call : ApiCall) → GivesInBody token resource body call → Permits token (row_of resource).right → MayMake token call
  body_rights (Query text at selection) gives covers = of _ gives.0 covers
  body_rights (Statement text key author) gives covers = of _ gives.0 covers
  body_rights (Trial text) gives covers = of _ gives.0 covers
  body_rights (Acknowledge stamp) gives covers = of _ gives.0 covers
  body_rights (AcknowledgeAlarms site) gives covers = of _ gives.0 covers
  body_rights (Meet address) gives covers = of _ gives.0 covers
  body_rights Stop gives covers = of _ gives covers
  body_rights Site gives covers = absurd gives
  body_rights (Client name rights) gives covers = absurd gives
  body_rights (Relvars counts) gives covers = absurd gives
  body_rights (Table relvar) gives covers = absurd gives
  body_rights Refused gives covers = absurd gives
  body_rights Attention gives covers = absurd gives
  body_rights (Log filter) gives covers = absurd gives
  body_rights Script gives covers = absurd gives
  body_rights Schema gives covers = absurd gives
  body_rights Digest gives covers = absurd gives
  body_rights Metrics gives covers = absurd gives
