use Rattle.td_grammar.proofs.OneStatement as laws
use Rattle.td_grammar.proofs.laws.reader_decides_statements.Goals as goal

pub returns-clause-statement : goal.returns-clause-statement
returns-clause-statement c = laws.reader_decides_statements

pub returns-clause-script : goal.returns-clause-script
returns-clause-script c = laws.reader_decides_scripts
