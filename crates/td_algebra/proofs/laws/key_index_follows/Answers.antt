use Rattle.td_algebra.proofs.KeyLaws.{inserted, removed, tells_apart}
use Rattle.td_algebra.proofs.laws.key_index_follows.Goals as goal

pub returns : goal.returns
returns c = record { tells_apart = tells_apart; inserted = inserted; removed = removed }
