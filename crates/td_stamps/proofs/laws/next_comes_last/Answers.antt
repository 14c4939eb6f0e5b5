use Rattle.td_stamps.proofs.Next.{next_comes_last}
use Rattle.td_stamps.proofs.laws.next_comes_last.Goals as goal

pub returns : goal.returns
returns c = next_comes_last
