use Rattle.td_grammar.specs.Statements.{IsScript}
use Rattle.td_grammar.specs.declared.stops.Reading.TheVariants.{Script}
use Rattle.td_parse_errors.specs.Places.{Decides}
use Rattle.td_parse_errors.proofs.Trees.{decided}
use Rattle.td_parse_errors.proofs.fault.is_script.Goals as goal

pub returns : goal.returns
returns c =
    let text = c.args.text.now in
    decided (IsScript text) (Decides Script text) (λ t h. (t, h)) (λ none h. none h.0 h.1) c.read_script.result c.is_there.result
    c.is_there.ensures.yes c.is_there.ensures.no c.read_script.ensures.trees c.read_script.ensures.syntax_only_without_any
