use Rattle.td_http_api.proofs.Tokens as tokens
use Rattle.td_http_api.proofs.laws.calls_need_token.Goals as goal

pub returns : goal.returns
returns g c = tokens.calls_need_token g.D.Desk.answers g.D.Desk.failing g.D.Desk.revision
