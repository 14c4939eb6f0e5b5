-- What a run of the loop makes of what a server shows, where each call of it makes a step of that.
use Rattle.std.proofs.Common.{◌≡◌, inl, inr, ℕ, List, [], ◌∷◌, ◌++◌, drop, Option, sym, subst}
use Rattle.http.specs.declared.request.Request.{Request}
use Rattle.http_server.specs.Exchange as Exchange
use Rattle.http_server.specs.Exchange.{Call}
use Rattle.http_server.specs.declared.response.Response.{Response}
use Rattle.td_event_loop.specs.Chains.{Chain, nothing, onward}
use Rattle.td_event_loop.specs.Clients.{ClientStep, Clients, answered, moved}
use Rattle.td_event_loop.specs.Meetings.{Meeting, StepAt, TakesTurn}
use Rattle.td_event_loop.specs.Runs.{LoopPasses, LoopState, LoopStep, Meetings, MeetingStep, met, served, kept, began, turned, ended}
use Rattle.td_event_loop.specs.declared.meets.StepResult.{StepResult}
use Rattle.td_event_loop.specs.declared.peer.Stage.{Stage}
use Rattle.td_event_loop.specs.declared.peer.Stage.TheVariants.{Opening, Differences, Greeting, Entries, Comparison, Reply, Parting, Draining}
use Rattle.td_event_loop.proofs.Passing.{chain_then}

module _ {S V : Type 0} (answers : S → Request (List ℕ) → Response → S → Type 0) (keeps : S → S → Type 0) (settles : S → List ℕ → StepResult → S → Type 0) (finishes : S → List ℕ → S → Type 0)
    (seen : S → V) (Step : V → V → Type 0)
    (on_answer : (s t : S) (request : Request (List ℕ)) (response : Response) → answers s request response t → Step (seen s) (seen t))
    (on_keep : (s t : S) → keeps s t → Step (seen s) (seen t))
    (on_settle : (s t : S) (reply : List ℕ) (step : StepResult) → settles s reply step t → Step (seen s) (seen t))
    (on_finish : (s t : S) (entries : List ℕ) → finishes s entries t → Step (seen s) (seen t)) where
  one : (s t : S) → Step (seen s) (seen t) → Chain Step (seen s) (seen t)
  one s t step = onward step nothing

  none : (s t : S) → t ≡ s → Chain Step (seen s) (seen t)
  none s t same = subst (λ u. Chain Step (seen s) (seen u)) (sym same) nothing

  of_step : (stage : Stage) (bytes : List ℕ) (s t : S) → StepAt keeps settles finishes stage bytes s t → Chain Step (seen s) (seen t)
  of_step Opening bytes s t step = one s t (on_keep s t step)
  of_step Differences bytes s t step = one s t (on_keep s t step)
  of_step Greeting bytes s t step = one s t (on_keep s t step)
  of_step (Entries at) bytes s t step = one s t (on_finish s t (drop at bytes) step)
  of_step Comparison bytes s t step = one s t (on_keep s t step)
  of_step Reply bytes s t step = one s t (on_settle s t bytes step.0 step.1)
  of_step (Parting side) bytes s t step = none s t step
  of_step Draining bytes s t step = none s t step

  of_turn : (before : Meeting) (after : Option Meeting) (s t : S) → TakesTurn keeps settles finishes before after s t → Chain Step (seen s) (seen t)
  of_turn before after s t (more, inl idles) = none s t idles.kept
  of_turn before after s t (more, inr acts) = of_step before.stage (before.inbox ++ more) s t acts.step

  of_meeting : (x y : Meetings S) → MeetingStep keeps settles finishes x y → Chain Step (seen x.site) (seen y.site)
  of_meeting x y (kept keep slots) = one x.site y.site (on_keep x.site y.site keep)
  of_meeting x y (began i m begins slots same) = none x.site y.site same
  of_meeting x y (turned i {before} {after} there turn slots) = of_turn before after x.site y.site turn
  of_meeting x y (ended i slots same) = none x.site y.site same

  of_calls : (s t : S) (calls : List Call) → Exchange.Chain answers s calls t → Chain Step (seen s) (seen t)
  of_calls s t [] same = none s t same
  of_calls s t (call ∷ calls) leads = onward (on_answer s leads.0 call.0 call.1 leads.1) (of_calls leads.0 t calls leads.2)

  of_client : (x y : Clients S) → ClientStep answers x y → Chain Step (seen x.server) (seen y.server)
  of_client x y (moved step same) = none x.server y.server same
  of_client x y (answered i there calls slots) = of_calls x.server y.server calls.0 calls.2

  of_loop : (x y : LoopState S) → LoopStep answers keeps settles finishes x y → Chain Step (seen x.server) (seen y.server)
  of_loop x y (served step slots) = of_client (record { slots = x.clients; server = x.server }) (record { slots = y.clients; server = y.server }) step
  of_loop x y (met step clients) = of_meeting (record { slots = x.slots; site = x.server }) (record { slots = y.slots; site = y.server }) step

  pub chain_of_run : (x y : LoopState S) → LoopPasses answers keeps settles finishes x y → Chain Step (seen x.server) (seen y.server)
  chain_of_run x y nothing = nothing
  chain_of_run x y (onward {t} step rest) = chain_then (of_loop x t step) (chain_of_run t y rest)
