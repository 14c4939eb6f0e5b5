-- What a request asks for, by its method, its path, its query string and its body.
use Rattle.std.specs.Prelude.{◌≡◌, ◌⊎◌, ℕ, Bool, true, false, List, [], ◌++◌, Option, Some, None, Ok, option_and_then, option_copied, unwrap_or, codes}
use Rattle.std.specs.List.{list_all}
use Rattle.std.specs.Str.Parse.{ParsesUnsigned}
use Rattle.http.specs.declared.request.Request.{Request}
use Rattle.http.specs.Request.{head_of, body_of}
use Rattle.http_uri.specs.Uri.{uri_path, uri_query}
use Rattle.json.specs.Find.{get, as_str, as_number}
use Rattle.json.specs.Json.{Json, document}
use Rattle.json.specs.Strict.{HasUniqueKeys}
use Rattle.td_client_tokens.specs.declared.token.ClientToken.{ClientToken}
use Rattle.td_http_api.specs.declared.calls.ApiCall.{ApiCall}
use Rattle.td_http_api.specs.declared.calls.LogFilter.{LogFilter}
use Rattle.td_http_api.specs.declared.calls.Selection.{Selection}
use Rattle.td_http_api.specs.declared.calls.ApiCall.TheVariants.{Site, Client, Relvars, Table, Refused, Attention, Log, Script, Schema, Digest, Metrics, Query, Statement, Trial, Acknowledge, AcknowledgeAlarms, Meet, Stop}
use Rattle.td_http_api.specs.declared.members.Member.{Member}
use Rattle.td_http_api.specs.declared.members.Member.TheVariants as member
use Rattle.td_http_api.specs.declared.resources.Resource.{Resource}
use Rattle.td_http_api.specs.declared.resources.Resource.TheVariants as the
use Rattle.td_http_api.specs.Fields.{field_value, query_fields}
use Rattle.td_http_api.specs.Guards.{token_name}
use Rattle.td_http_api.specs.Members.{is_member_name, member_name}
use Rattle.td_http_api.specs.Orders.{HasOrder}
use Rattle.td_http_api.specs.Resources.{Allows, row_of}

-- what follows the `?` of a path
abbrev pub query_of : Request (List ℕ) → List ℕ
query_of request = unwrap_or (uri_query (head_of request).uri) []

-- the names and values of a request's query string
abbrev pub request_fields : Request (List ℕ) → List (List ℕ × List ℕ)
request_fields request = query_fields (query_of request)

-- each field has the name of one of these members
abbrev pub AreKnown : List Member → List (List ℕ × List ℕ) → Type 0
AreKnown members fields = list_all (λ field. is_member_name members field.0) fields ≡ true

-- a flag is a name without a value
abbrev pub HasFlag : Member → List (List ℕ × List ℕ) → Bool → Type 0
HasFlag name fields true = field_value (member_name name) fields ≡ Some []
HasFlag name fields false = field_value (member_name name) fields ≡ None

-- the number of a field, if there is the field
abbrev pub HasNumber : Member → List (List ℕ × List ℕ) → Option ℕ → Type 0
HasNumber name fields None = field_value (member_name name) fields ≡ None
HasNumber name fields (Some n) =
    (digits : List ℕ) × (field_value (member_name name) fields ≡ Some digits) × ParsesUnsigned {E = List ℕ} 64 10 digits (Ok n)

-- each member of the filter is the field of its name
pub record HasFilter (fields : List (List ℕ × List ℕ)) (filter : LogFilter) : Type 0 where
  pub after : field_value (member_name member.After) fields ≡ option_copied filter.after
  pub before : field_value (member_name member.Before) fields ≡ option_copied filter.before
  pub relvar : field_value (member_name member.Relvar) fields ≡ option_copied filter.relvar
  pub key : field_value (member_name member.Key) fields ≡ option_copied filter.key
  pub author : field_value (member_name member.Author) fields ≡ option_copied filter.author
  pub contains : field_value (member_name member.Contains) fields ≡ option_copied filter.contains
  pub last : HasNumber member.Last fields filter.last

-- the text of a member of a body
abbrev pub member_text : Member → Json → Option (List ℕ)
member_text name body = option_and_then as_str (get (member_name name) body)

-- the number of a member of a body, if there is the member
abbrev pub HasCount : Member → Json → Option ℕ → Type 0
HasCount name body None = get (member_name name) body ≡ None
HasCount name body (Some n) =
    (digits : List ℕ) × (option_and_then as_number (get (member_name name) body) ≡ Some digits)
    × ParsesUnsigned {E = List ℕ} 64 10 digits (Ok n)

-- for this resource the name in the path, the fields of the query string, and the sender's token are those of the call
abbrev pub GivesInQuery : ClientToken → Resource → List ℕ → List (List ℕ × List ℕ) → ApiCall → Type 0
GivesInQuery token resource name fields Site = resource ≡ the.Site
GivesInQuery token resource name fields (Client own rights) = (resource ≡ the.Client) × (option_copied own ≡ token_name token) × (rights ≡ token.rights)
GivesInQuery token resource name fields (Relvars counts) = (resource ≡ the.Relvars) × HasFlag member.Counts fields counts
GivesInQuery token resource name fields (Table relvar) = (resource ≡ the.Table) × (name ≡ relvar.now)
GivesInQuery token resource name fields Refused = resource ≡ the.Refused
GivesInQuery token resource name fields Attention = resource ≡ the.Attention
GivesInQuery token resource name fields (Log filter) = (resource ≡ the.Log) × HasFilter fields filter
GivesInQuery token resource name fields Script = resource ≡ the.Script
GivesInQuery token resource name fields Schema = resource ≡ the.Schema
GivesInQuery token resource name fields Digest = resource ≡ the.Digest
GivesInQuery token resource name fields Metrics = resource ≡ the.Metrics
GivesInQuery token resource name fields _ = ⊥

-- the body says which tuples, and in which order
pub record HasSelection (body : Json) (selection : Selection) : Type 0 where
  pub order : HasOrder body selection.order.items
  pub contains : member_text member.Contains body ≡ option_copied selection.contains
  pub from : Option ℕ
  pub first : HasCount member.First body from × (selection.first ≡ unwrap_or from 0)
  pub count : HasCount member.Count body selection.count

-- for this resource the members of the body, and the name of the sender's token, are those of the call
abbrev pub GivesInBody : ClientToken → Resource → Json → ApiCall → Type 0
GivesInBody token resource body (Query text at selection) =
    (resource ≡ the.Query) × (member_text member.Text body ≡ Some text.now) × (member_text member.At body ≡ option_copied at)
    × HasSelection body selection
GivesInBody token resource body (Statement text key author) =
    (resource ≡ the.Statement) × (member_text member.Text body ≡ Some text.now) × (member_text member.Key body ≡ option_copied key)
    × (option_copied author ≡ token_name token)
GivesInBody token resource body (Trial text) = (resource ≡ the.Trial) × (member_text member.Text body ≡ Some text.now)
GivesInBody token resource body (Acknowledge stamp) = (resource ≡ the.Acknowledge) × (member_text member.Stamp body ≡ Some stamp.now)
GivesInBody token resource body (AcknowledgeAlarms site) = (resource ≡ the.AcknowledgeAlarms) × HasCount member.Site body (Some site)
GivesInBody token resource body (Meet address) = (resource ≡ the.Meet) × (member_text member.Address body ≡ Some address.now)
GivesInBody token resource body Stop = resource ≡ the.Stop
GivesInBody token resource body _ = ⊥

-- a request by a method of the resource, to its path with this name in it
pub record IsFor (resource : Resource) (name : List ℕ) (request : Request (List ℕ)) : Type 0 where
  pub method : Allows (row_of resource).methods (head_of request).method
  pub path : uri_path (head_of request).uri ≡ (row_of resource).path name

-- what a request asks for by its query string
pub record AsksByQuery (token : ClientToken) (request : Request (List ℕ)) (call : ApiCall) : Type 0 where
  pub resource : Resource
  pub name : List ℕ
  pub sent : IsFor resource name request
  pub known : AreKnown (row_of resource).members (request_fields request)
  pub gives : GivesInQuery token resource name (request_fields request) call

-- what a request asks for by its body, which is one value of JSON, in which no object has a key twice
pub record AsksByBody (token : ClientToken) (request : Request (List ℕ)) (call : ApiCall) : Type 0 where
  pub resource : Resource
  pub name : List ℕ
  pub sent : IsFor resource name request
  pub body : Json
  pub reads : document (body_of request) ≡ Some body
  pub unique : HasUniqueKeys body
  pub gives : GivesInBody token resource body call

-- what a request asks for that is sent by this token
abbrev pub AsksFor : ClientToken → Request (List ℕ) → ApiCall → Type 0
AsksFor token request call = AsksByQuery token request call ⊎ AsksByBody token request call
