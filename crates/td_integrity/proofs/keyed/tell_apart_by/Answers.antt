use Rattle.td_integrity.proofs.Found.{by_searches}
use Rattle.td_integrity.proofs.keyed.tell_apart_by.Goals as goal

pub returns : goal.returns
returns c = λ key after is. by_searches key c.args.inserted.now after c.args.index.now is c.find_themselves.result c.find_themselves.ensures
