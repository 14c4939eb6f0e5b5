use Rattle.td_journal.proofs.Cut.{cut_is_read, is_read_again}
use Rattle.td_journal.proofs.laws.cut_journal.Goals as goal

pub returns : goal.returns
returns c = record { cut = cut_is_read; again = is_read_again }
