use Rattle.td_grammar.specs.Grammar.{IsQuery}
use Rattle.td_grammar.specs.ForProofs.Reader.{read_expr}
use Rattle.td_grammar.proofs.Told.{tree_told, none_told}
use Rattle.td_grammar.proofs.OneTree.{reader_decides_queries}
use Rattle.td_grammar.proofs.reader.read_expr.Goals as goal

pub returns-clause-tree : goal.returns-clause-tree
returns-clause-tree c = tree_told (read_expr c.args.text.now) (IsQuery c.args.text.now) (reader_decides_queries c.args.text.now) _ c.query.ensures

pub returns-clause-syntax_only_without_one : goal.returns-clause-syntax_only_without_one
returns-clause-syntax_only_without_one c = none_told (read_expr c.args.text.now) (IsQuery c.args.text.now) (reader_decides_queries c.args.text.now) _ c.query.ensures
