-- What comes of a request.
use Rattle.std.specs.Prelude.{◌≡◌, ◌⊎◌, ◌≤◌, ℕ, List, [], Option, Some, codes}
use Rattle.http.specs.declared.request.Request.{Request}
use Rattle.http.specs.Request.{head_of}
use Rattle.http_server.specs.declared.response.Response.{Response}
use Rattle.http_uri.specs.Uri.{uri_path}
use Rattle.td_client_tokens.specs.declared.token.ClientToken.{ClientToken}
use Rattle.td_http_api.specs.declared.calls.ApiCall.{ApiCall}
use Rattle.td_http_api.specs.declared.desk.Revision.{Revision}
use Rattle.td_http_api.specs.declared.guard.Guard.{Guard}
use Rattle.td_http_api.specs.Answers.{Answer, Answering, Failing, IsAnswer, Revising, health_answer}
use Rattle.td_http_api.specs.Guards.{Admits}
use Rattle.td_http_api.specs.Requests.{AsksFor}
use Rattle.td_http_api.specs.Rights.{MayMake}
use Rattle.td_http_api.specs.Tags.{NamesTag, tag_text}

-- a fault: the desk is as it was
pub record RespondsWithFault {D : Type 0} (old : D) (response : Response) (new : D) : Type 0 where
  pub kept : new ≡ old
  pub status : 400 ≤ response.status

-- of calls that fit, the desk made one, and answered
pub record Makes {D : Type 0} (Fits : ApiCall → Type 0) (answers : Answering D) (old : D) (answer : Option Answer) (new : D) : Type 0 where
  pub call : ApiCall
  pub fits : Fits call
  pub answered : answers old call answer new

-- the response is what the desk answers to a call that fits
abbrev pub Responds : {D : Type 0} → (ApiCall → Type 0) → Answering D → D → Response → D → Type 0
Responds Fits answers old response new = (answer : Answer) × IsAnswer answer response × Makes Fits answers old (Some answer) new

-- memory ran out before a call that fits was made, or after it
abbrev pub LacksMemory : {D : Type 0} → (ApiCall → Type 0) → Answering D → D → D → Type 0
LacksMemory Fits answers old new = (new ≡ old) ⊎ ((answer : Option Answer) × Makes Fits answers old answer new)

-- a fault, or what the desk answers to a call that fits
abbrev pub ComesTo : {D : Type 0} → (ApiCall → Type 0) → Answering D → D → Response → D → Type 0
ComesTo Fits answers old response new = RespondsWithFault old response new ⊎ Responds Fits answers old response new

-- a request that is sent by the token asks for the call, and the token has the right to it
abbrev pub HolderMayCall : ClientToken → Request (List ℕ) → ApiCall → Type 0
HolderMayCall token request call = AsksFor token request call × MayMake token call

-- the request is let in by a token, asks for the call, and has the right to it
abbrev pub MayCall : Guard → Request (List ℕ) → ApiCall → Type 0
MayCall guard request call = (token : ClientToken) × Admits guard request token × HolderMayCall token request call

-- the page, for which no token is asked
pub record ShowsPage {D : Type 0} (old : D) (request : Request (List ℕ)) (new : D) : Type 0 where
  pub path : uri_path (head_of request).uri ≡ codes "/"
  pub kept : new ≡ old

-- whether the desk takes statements, for which no token is asked
pub record ShowsHealth {D : Type 0} (failing : Failing D) (old : D) (request : Request (List ℕ)) (response : Response) (new : D) : Type 0 where
  pub path : uri_path (head_of request).uri ≡ codes "/api/health"
  pub answer : IsAnswer (health_answer (failing old)) response
  pub kept : new ≡ old

-- the tag that a request names is that of the revision
pub record IsUnchanged {D : Type 0} (revision : Revision) (old : D) (request : Request (List ℕ)) (response : Response) (new : D) : Type 0 where
  pub named : NamesTag request (tag_text revision)
  pub answer : IsAnswer (record { status = 304; text = [] }) response
  pub kept : new ≡ old

-- what the sender of a request has, which is let in, is as it was
pub record ShowsUnchanged {D : Type 0} (revision : Revising D) (guard : Guard) (old : D) (request : Request (List ℕ)) (response : Response) (new : D) : Type 0 where
  pub token : ClientToken
  pub admits : Admits guard request token
  pub unchanged : IsUnchanged (revision old) old request response new

-- A response is the page, whether the desk takes statements, that nothing changed, a fault that leaves the desk as it
-- was, the desk's answer to the call that a request asks for which is let in, or an empty 503 where memory ran out.
abbrev pub Serves : {D : Type 0} → Answering D → Failing D → Revising D → Guard → D → Request (List ℕ) → Response → D → Type 0
Serves answers failing revision guard old request response new =
    ShowsPage old request new
    ⊎ (ShowsHealth failing old request response new
    ⊎ (ShowsUnchanged revision guard old request response new
    ⊎ (RespondsWithFault old response new
    ⊎ (Responds (MayCall guard request) answers old response new
    ⊎ (IsAnswer (record { status = 503; text = [] }) response × LacksMemory (MayCall guard request) answers old new)))))

-- a call keeps the guard, and serves the request
abbrev pub Leads : {D : Type 0} → Answering D → Failing D → Revising D → Guard → D → Request (List ℕ) → Response → Guard → D → Type 0
Leads answers failing revision guard old request response kept new =
    (kept ≡ guard) × Serves answers failing revision guard old request response new
