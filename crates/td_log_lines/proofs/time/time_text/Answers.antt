use Rattle.std.proofs.lemmas.Result.{IfOk-weaker}
use Rattle.td_log_lines.proofs.time.time_text.Goals as goal

pub returns : goal.returns
returns c = IfOk-weaker c.text_of.result _ _ (λ s e. (c.date_time.result, c.date_time.ensures, e)) c.text_of.ensures
