use Rattle.std.proofs.Common.{List, ℕ, subst}
use Rattle.std.specs.Io.KnownBytes.{Appends}
use Rattle.td_io.specs.Views.{output_of}
use Rattle.td_workbench.proofs.programs.tell_and_answer.Goals as goal

pub returns-in-Ok-answer_behind : goal.returns-in-Ok-answer_behind
returns-in-Ok-answer_behind g c =
    (output_of g.K.Sink c.put.new.sink, (subst (λ (t : List ℕ). Appends (g.K.Sink.held c.args.sink.now) (g.K.Sink.held c.put.new.sink) t) c.as_bytes.ensures.value c.in-Ok.ensures.bytes, c.in-Ok.ensures.count, λ _. c.in-Ok.ensures.flushed), c.in-Ok-answer_behind.ensures)
