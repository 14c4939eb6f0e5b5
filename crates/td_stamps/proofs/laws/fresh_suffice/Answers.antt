use Rattle.td_stamps.proofs.Fresh.{fresh_are_counted, fresh_are_new, fresh_are_of_batch, fresh_suffice}
use Rattle.td_stamps.proofs.laws.fresh_suffice.Goals as goal

pub returns : goal.returns
returns c = record { new = fresh_are_new; of_batch = fresh_are_of_batch; counted = fresh_are_counted; union = fresh_suffice }
