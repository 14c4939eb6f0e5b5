use Rattle.td_grammar.proofs.OneTree.{one_expr}
use Rattle.td_grammar.proofs.OneStatement.{one_statement, one_script}
use Rattle.td_grammar.proofs.laws.one_tree.Goals as goal

pub returns-clause-expression : goal.returns-clause-expression
returns-clause-expression c = one_expr

pub returns-clause-statement : goal.returns-clause-statement
returns-clause-statement c = one_statement

pub returns-clause-script : goal.returns-clause-script
returns-clause-script c = one_script
