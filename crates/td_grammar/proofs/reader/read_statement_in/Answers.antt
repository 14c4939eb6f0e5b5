use Rattle.td_grammar.specs.Statements.{IsStatementIn}
use Rattle.td_grammar.specs.ForProofs.StatementReader.{read_statement_in}
use Rattle.td_grammar.proofs.Told.{tree_told, none_told}
use Rattle.td_grammar.proofs.OneStatement.{reader_decides_in}
use Rattle.td_grammar.proofs.reader.read_statement_in.Goals as goal

pub returns-clause-tree : goal.returns-clause-tree
returns-clause-tree c = tree_told (read_statement_in c.args.dialect c.args.text.now) (IsStatementIn c.args.dialect c.args.text.now) (reader_decides_in c.args.dialect c.args.text.now) _ c.statement_in.ensures

pub returns-clause-syntax_only_without_one : goal.returns-clause-syntax_only_without_one
returns-clause-syntax_only_without_one c = none_told (read_statement_in c.args.dialect c.args.text.now) (IsStatementIn c.args.dialect c.args.text.now) (reader_decides_in c.args.dialect c.args.text.now) _ c.statement_in.ensures
