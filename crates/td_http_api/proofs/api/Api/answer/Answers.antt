use Rattle.std.proofs.Common.{◌≡◌, Some, option_copied, subst}
use Rattle.td_http_api.specs.Guards.{Admits, Holds}
use Rattle.td_http_api.specs.Resources.{row_of}
use Rattle.td_http_api.proofs.Admitting.{admits_of, called, failed, got}
use Rattle.td_http_api.proofs.api.Api.answer.Goals as goal

pub returns-then-eq-clause-ok : goal.returns-then-eq-clause-ok
returns-then-eq-clause-ok g c =
    let guard = c.args.self.now.guard in
    let request = c.args.request.now in
    let token = c.in-Some.token.now in
    let right = (row_of c.in-Ok.found.0.resource).right in
    let holds : Holds guard request right (Some token) =
    subst (λ t. Holds guard request right (option_copied t)) c.in-Some.is c.in-Ok.ensures.1 in
    let admits : Admits guard request token = admits_of guard request right token holds in
    called g.D.Desk.answers g.D.Desk.failing g.D.Desk.revision guard request token admits
    c.answer_body.result c.args.self.now.desk c.answer_body.new.response c.answer_body.new.desk c.answer_body.ensures.ok

pub returns-then-eq-clause-err : goal.returns-then-eq-clause-err
returns-then-eq-clause-err g c =
    let guard = c.args.self.now.guard in
    let request = c.args.request.now in
    let token = c.in-Some.token.now in
    let right = (row_of c.in-Ok.found.0.resource).right in
    let holds : Holds guard request right (Some token) =
    subst (λ t. Holds guard request right (option_copied t)) c.in-Some.is c.in-Ok.ensures.1 in
    let admits : Admits guard request token = admits_of guard request right token holds in
    failed g.D.Desk.answers g.D.Desk.failing g.D.Desk.revision guard request token admits
    c.answer_body.result c.args.self.now.desk c.answer_body.new.desk c.answer_body.ensures.err

pub returns-else-eq-clause-ok : goal.returns-else-eq-clause-ok
returns-else-eq-clause-ok g c =
    let guard = c.args.self.now.guard in
    let request = c.args.request.now in
    let token = c.in-Some.token.now in
    let right = (row_of c.in-Ok.found.0.resource).right in
    let holds : Holds guard request right (Some token) =
    subst (λ t. Holds guard request right (option_copied t)) c.in-Some.is c.in-Ok.ensures.1 in
    let admits : Admits guard request token = admits_of guard request right token holds in
    got g.D.Desk.answers g.D.Desk.failing g.D.Desk.revision guard request token admits
    c.answer_get.result c.args.self.now.desk c.answer_get.new.response c.answer_get.new.desk c.answer_get.ensures.ok

pub returns-else-eq-clause-err : goal.returns-else-eq-clause-err
returns-else-eq-clause-err g c =
    let guard = c.args.self.now.guard in
    let request = c.args.request.now in
    let token = c.in-Some.token.now in
    let right = (row_of c.in-Ok.found.0.resource).right in
    let holds : Holds guard request right (Some token) =
    subst (λ t. Holds guard request right (option_copied t)) c.in-Some.is c.in-Ok.ensures.1 in
    let admits : Admits guard request token = admits_of guard request right token holds in
    failed g.D.Desk.answers g.D.Desk.failing g.D.Desk.revision guard request token admits
    c.answer_get.result c.args.self.now.desk c.answer_get.new.desk c.answer_get.ensures.err
