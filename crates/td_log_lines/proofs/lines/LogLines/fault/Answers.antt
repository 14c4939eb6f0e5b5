use Rattle.std.proofs.Common.{rules, ◌∙◌, ◌≡◌}
use Rattle.std.proofs.lemmas.Result.{IfOk-weaker}
use Rattle.td_log_lines.proofs.Held.{as_fault}
use Rattle.td_log_lines.proofs.lines.LogLines.fault.Goals as goal

pub returns-clause-printed : goal.returns-clause-printed
returns-clause-printed c = λ free.
    let same : c.hold_back.new.notices.items ≡ c.args.self.now = search rules in
    IfOk-weaker c.print.result _ _ (λ it p. let q = rw same at p in (q.0, q.1, q.2 ∙ as_fault q.0 _ _, q.3)) c.print.ensures.printed
