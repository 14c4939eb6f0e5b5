-- Calls that bear none of the tokens.
use Rattle.std.proofs.Common.{◌≡◌, ◌∙◌, inl, inr, ap, ℕ, List, [], ◌∷◌}
use Rattle.http.specs.declared.request.Request.{Request}
use Rattle.http_server.specs.declared.response.Response.{Response}
use Rattle.td_http_api.specs.declared.guard.Guard.{Guard}
use Rattle.td_http_api.specs.Answers.{Answering, Failing, Revising}
use Rattle.td_http_api.specs.Laws.{BearsNone, CallsNeedToken, NoneBears}
use Rattle.td_http_api.specs.Services.{MayCall, Serves}
use Rattle.td_http_api.specs.declared.calls.ApiCall.{ApiCall}

barred : {guard : Guard} {request : Request (List ℕ)} {call : ApiCall} {A : Type 0} → MayCall guard request call → BearsNone guard.tokens.items request → A
barred may lacks = absurd (lacks may.0 may.1.listed may.1.bears)

kept : {D : Type 0} (answers : Answering D) (failing : Failing D) (revision : Revising D) (guard : Guard) (old : D) (request : Request (List ℕ)) (response : Response) (new : D)
    → Serves answers failing revision guard old request response new → BearsNone guard.tokens.items request → new ≡ old
kept answers failing revision guard old request response new (inl page) lacks = page.kept
kept answers failing revision guard old request response new (inr (inl health)) lacks = health.kept
kept answers failing revision guard old request response new (inr (inr (inl same))) lacks = same.unchanged.kept
kept answers failing revision guard old request response new (inr (inr (inr (inl refused)))) lacks = refused.kept
kept answers failing revision guard old request response new (inr (inr (inr (inr (inl answered))))) lacks = barred answered.2.fits lacks
kept answers failing revision guard old request response new (inr (inr (inr (inr (inr (empty, inl same)))))) lacks = same
kept answers failing revision guard old request response new (inr (inr (inr (inr (inr (empty, inr made)))))) lacks = barred made.1.fits lacks

pub calls_need_token : {D : Type 0} (answers : Answering D) (failing : Failing D) (revision : Revising D) → CallsNeedToken answers failing revision
calls_need_token answers failing revision [] old new same none = ap (λ s. s.desk) same
calls_need_token {D} answers failing revision (c ∷ calls) old new chain none =
    let later : NoneBears chain.0.guard.tokens.items calls = rw chain.1.0 none.1 in
    calls_need_token answers failing revision calls chain.0 new chain.2 later
    ∙ kept answers failing revision old.guard old.desk c.0 c.1 chain.0.desk chain.1.1 none.0
