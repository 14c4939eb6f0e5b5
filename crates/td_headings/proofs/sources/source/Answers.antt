use Rattle.std.proofs.Common.{sym, subst}
use Rattle.td_schema.specs.Results.{Gives}
use Rattle.td_headings.proofs.SourceLemmas.{is_found}
use Rattle.td_headings.proofs.sources.source.Goals as goal

pub returns : goal.returns
returns c = subst (λ o. Gives o c.found.result) (sym (is_found c.args.schema.now c.args.action.now)) c.found.ensures
