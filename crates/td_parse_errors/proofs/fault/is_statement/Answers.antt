use Rattle.td_grammar.specs.Statements.{IsStatement}
use Rattle.td_grammar.specs.declared.stops.Reading.TheVariants.{Statement}
use Rattle.td_parse_errors.specs.Places.{Decides}
use Rattle.td_parse_errors.proofs.Trees.{decided}
use Rattle.td_parse_errors.proofs.fault.is_statement.Goals as goal

pub returns : goal.returns
returns c =
    let text = c.args.text.now in
    decided (IsStatement text) (Decides Statement text) (λ t h. (t, h)) (λ none h. none h.0 h.1) c.read_statement.result c.is_there.result
    c.is_there.ensures.yes c.is_there.ensures.no c.read_statement.ensures.tree c.read_statement.ensures.syntax_only_without_one
