-- What a desk answers, and which response has it.
use Rattle.std.specs.Prelude.{◌≡◌, ℕ, true, false, List, [], ◌∷◌, ◌++◌, codes, Option, Some, None, Result, Ok, Err, string_bytes}
use Rattle.http_server.specs.declared.response.Response.{Response}
use Rattle.json.specs.Print.{print}
use Rattle.json.specs.Token.{begin_object, end_object, boolean, key, string}
use Rattle.json.specs.Written.{Written}
use Rattle.td_http_api.specs.declared.calls.ApiCall.{ApiCall}
use Rattle.td_http_api.specs.declared.desk.DeskAnswer.{DeskAnswer}
use Rattle.td_http_api.specs.declared.desk.Revision.{Revision}
use Rattle.td_http_api.specs.declared.desk.DeskAnswer.TheVariants.{Members, Table, Metrics}

-- a status, and the text of a body
pub record Answer : Type 0 where
  pub status : ℕ
  pub text : List ℕ

-- the response has the status and the text of the answer
pub record IsAnswer (answer : Answer) (response : Response) : Type 0 where
  pub status : response.status ≡ answer.status
  pub body : response.body.items ≡ answer.text

-- From the first state of a desk a call is answered so, and leaves the second. There is no answer where memory ran out.
abbrev pub Answering : Type 0 → Type 1
Answering D = D → ApiCall → Option Answer → D → Type 0

-- why a desk takes no statements, if it takes none
abbrev pub Failing : Type 0 → Type 0
Failing D = D → Option (List ℕ)

-- of a desk, what it shows
abbrev pub Revising : Type 0 → Type 0
Revising D = D → Revision

-- an answer begins with this
pub record IsBegun (out : Written) : Type 0 where
  pub before : out.before ≡ []
  pub tokens : out.tokens ≡ begin_object ∷ []

-- the text of an object whose members were written after its bracket
abbrev pub object_text : Written → List ℕ
object_text out = out.before ++ print (out.tokens ++ end_object ∷ [])

-- the object of the members that a desk wrote, or a text in place of it
abbrev pub answer_of : DeskAnswer → Written → Answer
answer_of (Members status) out = record { status = status; text = object_text out }
answer_of (Table table) out = record { status = 200; text = string_bytes table }
answer_of (Metrics metrics) out = record { status = 200; text = string_bytes metrics }

-- what a desk answers, unless memory ran out
abbrev pub given_answer : {E : Type 0} → Result DeskAnswer E → Written → Option Answer
given_answer (Ok given) out = Some (answer_of given out)
given_answer (Err e) out = None

-- the object of a fault with these words
abbrev pub fault_text : List ℕ → List ℕ
fault_text words = print (begin_object ∷ key (codes "fault") ∷ string words ∷ end_object ∷ [])

-- whether a site takes statements, and why not
abbrev pub health_answer : Option (List ℕ) → Answer
health_answer None = record { status = 200; text = print (begin_object ∷ key (codes "open") ∷ boolean true ∷ end_object ∷ []) }
health_answer (Some why) =
    record { status = 503; text = print (begin_object ∷ key (codes "open") ∷ boolean false ∷ key (codes "fault") ∷ string why ∷ end_object ∷ []) }
