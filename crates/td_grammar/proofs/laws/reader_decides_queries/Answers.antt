use Rattle.td_grammar.proofs.OneTree as laws
use Rattle.td_grammar.proofs.laws.reader_decides_queries.Goals as goal

pub returns : goal.returns
returns c = laws.reader_decides_queries
