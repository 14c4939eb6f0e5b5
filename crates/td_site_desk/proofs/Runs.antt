-- A run of the loop over a server is a chain of steps of its site.
use Rattle.std.proofs.Common.{◌≡◌, inl, inr, ℕ, List, ap}
use Rattle.http.specs.declared.request.Request.{Request}
use Rattle.http_server.specs.declared.response.Response.{Response}
use Rattle.td_event_loop.specs.Chains.{Chain}
use Rattle.td_event_loop.specs.Runs.{LoopPasses, LoopState}
use Rattle.td_event_loop.proofs.Shown.{chain_of_run}
use Rattle.td_http_api.specs.Answers.{Answering, Failing, Revising}
use Rattle.td_http_api.specs.Services.{Leads, Serves}
use Rattle.td_http_api.specs.declared.guard.Guard.{Guard}
use Rattle.td_replica.specs.Seen.{Seen}
use Rattle.td_site_desk.specs.Meetings.{Finishes, Settles}
use Rattle.td_site_desk.specs.Runs.{GuardedStep, SiteStep, stays, called, settled, finished}
use Rattle.td_site_desk.specs.Sites.{Changes}

module _ {D : Type 0} (seen : D → Seen) (failing : Failing D) (revision : Revising D) where
  -- a call of a desk changes its site
  abbrev pub site_answers : Answering D
  site_answers old call answer new = Changes (failing old) call answer (seen old) (seen new)

  of_request : (guard : Guard) (old : D) (request : Request (List ℕ)) (response : Response) (new : D)
      → Serves site_answers failing revision guard old request response new → SiteStep guard (seen old) (seen new)
  of_request guard old request response new (inl page) = stays (ap seen page.kept)
  of_request guard old request response new (inr (inl health)) = stays (ap seen health.kept)
  of_request guard old request response new (inr (inr (inl unchanged))) = stays (ap seen unchanged.unchanged.kept)
  of_request guard old request response new (inr (inr (inr (inl fault)))) = stays (ap seen fault.kept)
  of_request guard old request response new (inr (inr (inr (inr (inl responds))))) =
      called request responds.2.call (failing old) _ responds.2.fits responds.2.answered
  of_request guard old request response new (inr (inr (inr (inr (inr (is, inl kept)))))) = stays (ap seen kept)
  of_request guard old request response new (inr (inr (inr (inr (inr (is, inr makes)))))) =
      called request makes.1.call (failing old) makes.0 makes.1.fits makes.1.answered

  -- each step of the server is one under its guard
  pub site_run : {S : Type 0} (guard_of : S → Guard) (desk_of : S → D) (old new : LoopState S)
      → LoopPasses (λ s (request : Request (List ℕ)) (response : Response) t. Leads site_answers failing revision (guard_of s) (desk_of s) request response (guard_of t) (desk_of t))
      (λ s t. ((guard_of t).hosts ≡ (guard_of s).hosts) × (seen (desk_of t) ≡ seen (desk_of s)))
      (λ s reply step t. (guard_of t ≡ guard_of s) × Settles (seen (desk_of s)) reply step (seen (desk_of t)))
      (λ s entries t. (guard_of t ≡ guard_of s) × Finishes (seen (desk_of s)) entries (seen (desk_of t))) old new
      → Chain GuardedStep (guard_of old.server, seen (desk_of old.server)) (guard_of new.server, seen (desk_of new.server))
  site_run guard_of desk_of old new steps =
      chain_of_run _ _ _ _ (λ s. (guard_of s, seen (desk_of s))) GuardedStep
      (λ s t request response leads. inl (leads.0, of_request (guard_of s) (desk_of s) request response (desk_of t) leads.1))
      (λ s t keep. inr keep) (λ s t reply step read. inl (read.0, settled reply step read.1)) (λ s t entries read. inl (read.0, finished entries read.1))
      old new steps
