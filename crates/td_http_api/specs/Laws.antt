-- What holds over all calls of a connection.
use Rattle.std.specs.Prelude.{◌≡◌, ℕ, List, [], ◌∷◌, Contains}
use Rattle.http.specs.declared.request.Request.{Request}
use Rattle.http_server.specs.Exchange.{Call, Chain}
use Rattle.td_client_tokens.specs.declared.token.ClientToken.{ClientToken}
use Rattle.td_http_api.specs.declared.api.Api.{Api}
use Rattle.td_http_api.specs.Answers.{Answering, Failing, Revising}
use Rattle.td_http_api.specs.Guards.{Bears}
use Rattle.td_http_api.specs.Services.{Leads}

-- the request bears none of these tokens
abbrev pub BearsNone : List ClientToken → Request (List ℕ) → Type 0
BearsNone tokens request = (token : ClientToken) → Contains tokens token → ¬ (Bears token request)

-- no request of the calls bears one of these tokens
abbrev pub NoneBears : List ClientToken → List Call → Type 0
NoneBears tokens [] = Unit {0}
NoneBears tokens (c ∷ calls) = BearsNone tokens c.0 × NoneBears tokens calls

-- calls that bear none of the guard's tokens leave the desk as it was
abbrev pub CallsNeedToken : {D : Type 0} → Answering D → Failing D → Revising D → Type 0
CallsNeedToken {D} answers failing revision =
    (calls : List Call) (old new : Api D)
    → Chain (λ s request response t. Leads answers failing revision s.guard s.desk request response t.guard t.desk) old calls new
    → NoneBears old.guard.tokens.items calls → new.desk ≡ old.desk
