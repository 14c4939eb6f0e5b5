use Rattle.std.proofs.Common.{append_assoc}
use Rattle.td_answers.proofs.writing.put_raised.Goals as goal

pub returns-clause-bytes : goal.returns-clause-bytes
returns-clause-bytes c = rw (c.put-2.ensures.bytes, c.put.ensures.bytes, c.raise_words.ensures) (simp append_assoc)
