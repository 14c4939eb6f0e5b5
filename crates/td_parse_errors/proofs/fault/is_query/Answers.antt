use Rattle.td_grammar.specs.Grammar.{IsQuery}
use Rattle.td_grammar.specs.declared.stops.Reading.TheVariants.{Query}
use Rattle.td_parse_errors.specs.Places.{Decides}
use Rattle.td_parse_errors.proofs.Trees.{decided}
use Rattle.td_parse_errors.proofs.fault.is_query.Goals as goal

pub returns : goal.returns
returns c =
    let text = c.args.text.now in
    decided (IsQuery text) (Decides Query text) (λ t h. (t, h)) (λ none h. none h.0 h.1) c.read_expr.result c.is_there.result
    c.is_there.ensures.yes c.is_there.ensures.no c.read_expr.ensures.tree c.read_expr.ensures.syntax_only_without_one
