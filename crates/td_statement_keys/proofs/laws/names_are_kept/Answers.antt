use Rattle.td_statement_keys.proofs.Names as names
use Rattle.td_statement_keys.proofs.laws.names_are_kept.Goals as goal

pub returns : goal.returns
returns c = names.names_are_kept
