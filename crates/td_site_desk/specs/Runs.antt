-- What a site goes through while its server runs.
use Rattle.std.specs.Prelude.{◌≡◌, ◌⊎◌, ℕ, List, Option}
use Rattle.http.specs.declared.request.Request.{Request}
use Rattle.td_event_loop.specs.declared.meets.StepResult.{StepResult}
use Rattle.td_http_api.specs.Answers.{Answer}
use Rattle.td_http_api.specs.Services.{MayCall}
use Rattle.td_http_api.specs.declared.calls.ApiCall.{ApiCall}
use Rattle.td_http_api.specs.declared.guard.Guard.{Guard}
use Rattle.td_replica.specs.Seen.{Seen}
use Rattle.td_site_desk.specs.Meetings.{Finishes, Settles}
use Rattle.td_site_desk.specs.Sites.{Changes}

-- A step of a site: the call is made that a request asks for which the guard lets in, a reply or entries are read, or
-- all stays.
pub data SiteStep (guard : Guard) : Seen → Seen → Type 0 where
  stays : {s t : Seen} → t ≡ s → SiteStep guard s t
  called : {s t : Seen} (request : Request (List ℕ)) (call : ApiCall) (failing : Option (List ℕ)) (answer : Option Answer)
      → MayCall guard request call → Changes failing call answer s t → SiteStep guard s t
  settled : {s t : Seen} (reply : List ℕ) (step : StepResult) → Settles s reply step t → SiteStep guard s t
  finished : {s t : Seen} (entries : List ℕ) → Finishes s entries t → SiteStep guard s t

-- A step under the guard that lets requests in then: it is the same after the step, or its tokens are other ones and the
-- site is as it was.
abbrev pub GuardedStep : Guard × Seen → Guard × Seen → Type 0
GuardedStep old new =
    ((new.0 ≡ old.0) × SiteStep old.0 old.1 new.1)
    ⊎ ((new.0.hosts ≡ old.0.hosts) × (new.1 ≡ old.1))
