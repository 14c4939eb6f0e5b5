use Rattle.std.proofs.Common.{◌≡◌, ◌∙◌, ℕ, List, Some, inr}
use Rattle.http.specs.declared.request.Request.{Request}
use Rattle.http.specs.Request.{body_of}
use Rattle.json.specs.Json.{Json, document}
use Rattle.json.specs.Strict.{HasUniqueKeys}
use Rattle.json.specs.Value.{value_view}
use Rattle.td_client_tokens.specs.declared.token.ClientToken.{ClientToken}
use Rattle.td_http_api.specs.declared.calls.ApiCall.{ApiCall}
use Rattle.td_http_api.specs.declared.resources.Resource.{Resource}
use Rattle.td_http_api.specs.Guards.{Permits}
use Rattle.td_http_api.specs.Requests.{GivesInBody, IsFor}
use Rattle.td_http_api.specs.Resources.{row_of}
use Rattle.td_http_api.specs.Services.{HolderMayCall}
use Rattle.td_http_api.proofs.Rights.{body_rights}
use Rattle.td_http_api.proofs.Weaker.{comes_weaker, fails_weaker}
use Rattle.td_http_api.proofs.api.answer_body.Goals as goal

may : (token : ClientToken) (resource : Resource) (name : List ℕ) (request : Request (List ℕ)) (body : Json)
    → IsFor resource name request → Permits token (row_of resource).right
    → document (body_of request) ≡ Some body → HasUniqueKeys body
    → (call : ApiCall) → GivesInBody token resource body call → HolderMayCall token request call
may token resource name request body sent covers reads unique call gives = (
  inr (record { resource = resource; name = name; sent = sent; body = body; reads = reads; unique = unique; gives = gives }),
  body_rights token resource body call gives covers,
)

pub returns-in-Ok-parse_strict-clause-ok : goal.returns-in-Ok-parse_strict-clause-ok
returns-in-Ok-parse_strict-clause-ok g c =
    let token = c.args.token.now in
    let target = c.args.target in
    let request = c.args.request.now in
    let body = value_view c.in-Ok-parse_strict.body in
    let text : c.in-Ok.text.now ≡ body_of request = c.in-Ok.ensures.cases.0 ∙ (c.as_slice.ensures ∙ c.body.ensures) in
    let reads : document (body_of request) ≡ Some body = rw (← text) c.in-Ok-parse_strict.ensures.ok in
    comes_weaker (GivesInBody token target.resource body) (HolderMayCall token request)
    (may token target.resource target.name.now request body c.requires.sent c.requires.right reads c.in-Ok-parse_strict.ensures.unique)
    g.D.Desk.answers c.answer_members.result c.args.desk.now c.answer_members.new.response
    c.answer_members.new.desk c.answer_members.ensures.ok

pub returns-in-Ok-parse_strict-clause-err : goal.returns-in-Ok-parse_strict-clause-err
returns-in-Ok-parse_strict-clause-err g c =
    let token = c.args.token.now in
    let target = c.args.target in
    let request = c.args.request.now in
    let body = value_view c.in-Ok-parse_strict.body in
    let text : c.in-Ok.text.now ≡ body_of request = c.in-Ok.ensures.cases.0 ∙ (c.as_slice.ensures ∙ c.body.ensures) in
    let reads : document (body_of request) ≡ Some body = rw (← text) c.in-Ok-parse_strict.ensures.ok in
    fails_weaker (GivesInBody token target.resource body) (HolderMayCall token request)
    (may token target.resource target.name.now request body c.requires.sent c.requires.right reads c.in-Ok-parse_strict.ensures.unique)
    g.D.Desk.answers c.answer_members.result c.args.desk.now c.answer_members.new.desk
    c.answer_members.ensures.err
