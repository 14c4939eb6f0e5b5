use Rattle.td_log_lines.proofs.Balance as balance
use Rattle.td_log_lines.proofs.laws.no_fault_is_lost.Goals as goal

pub returns : goal.returns
returns c = balance.no_fault_is_lost
