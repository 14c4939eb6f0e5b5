use Rattle.td_statement_keys.proofs.Once.{keys_find_theirs}
use Rattle.td_statement_keys.proofs.laws.keys_find_theirs.Goals as goal

pub returns : goal.returns
returns c = keys_find_theirs
