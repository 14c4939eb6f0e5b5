-- Tags of what a site shows (RFC 9110, 8.8.3), and requests that name one (13.1.2).
use Rattle.std.specs.Prelude.{◌≡◌, ℕ, List, [], ◌++◌, Some, codes, decimal}
use Rattle.http.specs.declared.request.Request.{Request}
use Rattle.http_server.specs.declared.response.Response.{Response}
use Rattle.td_http_api.specs.Guards.{only_value, values_of}
use Rattle.td_http_api.specs.declared.desk.Revision.{Revision}

-- the three numbers of a revision, in quotation marks
abbrev pub tag_text : Revision → List ℕ
tag_text revision =
    codes "\"" ++ (decimal revision.start ++ (codes "-" ++ (decimal revision.statements ++ (codes "-" ++ (decimal revision.marks ++ codes "\"")))))

-- the request asks for what has another tag
abbrev pub NamesTag : Request (List ℕ) → List ℕ → Type 0
NamesTag request tag = only_value (values_of request (codes "if-none-match")) ≡ Some tag

-- nothing is answered so far, whatever the headers
pub record IsUnanswered (response : Response) : Type 0 where
  pub status : response.status ≡ 200
  pub body : response.body.items ≡ []
