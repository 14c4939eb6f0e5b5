-- What comes of a request by a token is what comes of one that the guard lets in by it.
use Rattle.std.proofs.Common.{◌⊎◌, inl, inr, ℕ, List, Option, Some, OnOk, OnErr, Result, Ok, Err}
use Rattle.http.specs.declared.request.Request.{Request}
use Rattle.http_server.specs.declared.response.Response.{Response}
use Rattle.td_client_tokens.specs.declared.token.ClientToken.{ClientToken}
use Rattle.td_http_api.specs.declared.calls.ApiCall.{ApiCall}
use Rattle.td_http_api.specs.declared.guard.Guard.{Guard}
use Rattle.td_http_api.specs.declared.resources.Right.{Right}
use Rattle.td_http_api.specs.declared.resources.Right.TheVariants.{Everyone, Bearer}
use Rattle.td_http_api.specs.Answers.{Answering, Failing, Revising}
use Rattle.td_http_api.specs.Guards.{Admits, Holds}
use Rattle.td_http_api.specs.Services.{ComesTo, HolderMayCall, IsUnchanged, LacksMemory, MayCall, ShowsHealth, ShowsPage, ShowsUnchanged}
use Rattle.td_http_api.proofs.Weaker.{comes, fails_weaker}

pub admits_of : (guard : Guard) (request : Request (List ℕ)) (right : Right) (token : ClientToken)
    → Holds guard request right (Some token) → Admits guard request token
admits_of guard request Everyone token holds = absurd holds
admits_of guard request (Bearer rights) token holds = holds.0

module _ {D : Type 0} (answers : Answering D) (failing : Failing D) (revision : Revising D) (guard : Guard) (request : Request (List ℕ)) (token : ClientToken) (admits : Admits guard request token) where
  may : (call : ApiCall) → HolderMayCall token request call → MayCall guard request call
  may call holder = (token, admits, holder)

  -- what is answered to a request that is let in
  abbrev pub Answered : D → Response → D → Type 0
  Answered old response new =
      ShowsPage old request new
      ⊎ (ShowsHealth failing old request response new
      ⊎ (ShowsUnchanged revision guard old request response new
      ⊎ ComesTo (MayCall guard request) answers old response new))

  pub called : {E : Type 0} (result : Result (Unit {0}) E) (old : D) (response : Response) (new : D)
      → OnOk result (ComesTo (HolderMayCall token request) answers old response new) → OnOk result (Answered old response new)
  called (Ok u) old response new came = inr (inr (inr (comes (HolderMayCall token request) (MayCall guard request) may answers old response new came)))
  called (Err e) old response new came = tt

  pub got : {E : Type 0} (result : Result (Unit {0}) E) (old : D) (response : Response) (new : D)
      → OnOk result (IsUnchanged (revision old) old request response new ⊎ ComesTo (HolderMayCall token request) answers old response new)
      → OnOk result (Answered old response new)
  got (Ok u) old response new (inl same) = inr (inr (inl (record { token = token; admits = admits; unchanged = same })))
  got (Ok u) old response new (inr came) = inr (inr (inr (comes (HolderMayCall token request) (MayCall guard request) may answers old response new came)))
  got (Err e) old response new came = tt

  pub failed : {E : Type 0} (result : Result (Unit {0}) E) (old new : D)
      → OnErr result (LacksMemory (HolderMayCall token request) answers old new) → OnErr result (LacksMemory (MayCall guard request) answers old new)
  failed result old new = fails_weaker (HolderMayCall token request) (MayCall guard request) may answers result old new
