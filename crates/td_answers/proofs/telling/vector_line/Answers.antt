use Rattle.std.proofs.Common.{ap, subst}
use Rattle.td_stamps.specs.Sets.{Holding}
use Rattle.td_stamps.specs.Vectors.{IsVector}
use Rattle.td_answers.proofs.telling.vector_line.Goals as goal

pub returns-in-Ok-vector_text : goal.returns-in-Ok-vector_text
returns-in-Ok-vector_text g c =
    let (live, held) = c.in-Ok.ensures in (
      live,
      record {
        vector = c.in-Ok-vector.vector;
        counts = subst (λ es. IsVector es c.in-Ok-vector.vector) (ap (λ (h : Holding). h.entries) held) c.in-Ok-vector.ensures;
        line = c.in-Ok-vector_text.ensures;
      },
    )
