use Rattle.td_grammar.specs.Statements.{IsStatement}
use Rattle.td_grammar.specs.ForProofs.StatementReader.{read_statement}
use Rattle.td_grammar.proofs.Told.{tree_told, none_told}
use Rattle.td_grammar.proofs.OneStatement.{reader_decides_statements}
use Rattle.td_grammar.proofs.reader.read_statement.Goals as goal

pub returns-clause-tree : goal.returns-clause-tree
returns-clause-tree c = tree_told (read_statement c.args.text.now) (IsStatement c.args.text.now) (reader_decides_statements c.args.text.now) _ c.statement.ensures

pub returns-clause-syntax_only_without_one : goal.returns-clause-syntax_only_without_one
returns-clause-syntax_only_without_one c = none_told (read_statement c.args.text.now) (IsStatement c.args.text.now) (reader_decides_statements c.args.text.now) _ c.statement.ensures
