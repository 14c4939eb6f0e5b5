-- What comes of calls that fit one thing comes of calls that fit what follows from it.
use Rattle.std.proofs.Common.{inl, inr, Option, Some, OnOk, OnErr, Result, Ok, Err}
use Rattle.http_server.specs.declared.response.Response.{Response}
use Rattle.td_http_api.specs.Answers.{Answer, Answering}
use Rattle.td_http_api.specs.declared.calls.ApiCall.{ApiCall}
use Rattle.td_http_api.specs.Services.{ComesTo, LacksMemory, Makes}

module _ {D : Type 0} (P Q : ApiCall → Type 0) (follows : (call : ApiCall) → P call → Q call) (answers : Answering D) where
  makes : (old : D) (answer : Option Answer) (new : D) → Makes P answers old answer new → Makes Q answers old answer new
  makes old answer new m = record { call = m.call; fits = follows m.call m.fits; answered = m.answered }

  pub comes : (old : D) (response : Response) (new : D) → ComesTo P answers old response new → ComesTo Q answers old response new
  comes old response new (inl refused) = inl refused
  comes old response new (inr a) = inr (a.0, a.1, makes old (Some a.0) new a.2)

  fails : (old new : D) → LacksMemory P answers old new → LacksMemory Q answers old new
  fails old new (inl kept) = inl kept
  fails old new (inr f) = inr (f.0, makes old f.0 new f.1)

  pub comes_weaker : {E : Type 0} (result : Result (Unit {0}) E) (old : D) (response : Response) (new : D)
      → OnOk result (ComesTo P answers old response new) → OnOk result (ComesTo Q answers old response new)
  comes_weaker (Ok u) old response new h = comes old response new h
  comes_weaker (Err e) old response new h = tt

  pub fails_weaker : {E : Type 0} (result : Result (Unit {0}) E) (old new : D)
      → OnErr result (LacksMemory P answers old new) → OnErr result (LacksMemory Q answers old new)
  fails_weaker (Ok u) old new h = tt
  fails_weaker (Err e) old new h = fails old new h
