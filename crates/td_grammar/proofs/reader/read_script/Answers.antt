use Rattle.td_grammar.specs.Statements.{IsScript}
use Rattle.td_grammar.specs.ForProofs.StatementReader.{read_script}
use Rattle.td_grammar.proofs.Told.{tree_told, none_told}
use Rattle.td_grammar.proofs.OneStatement.{reader_decides_scripts}
use Rattle.td_grammar.proofs.reader.read_script.Goals as goal

pub returns-clause-trees : goal.returns-clause-trees
returns-clause-trees c = tree_told (read_script c.args.text.now) (IsScript c.args.text.now) (reader_decides_scripts c.args.text.now) _ c.script.ensures

pub returns-clause-syntax_only_without_any : goal.returns-clause-syntax_only_without_any
returns-clause-syntax_only_without_any c = none_told (read_script c.args.text.now) (IsScript c.args.text.now) (reader_decides_scripts c.args.text.now) _ c.script.ensures
