use Rattle.td_statement_keys.proofs.Once.{each_key_acts_once}
use Rattle.td_statement_keys.proofs.laws.each_key_acts_once.Goals as goal

pub returns : goal.returns
returns c = each_key_acts_once
