use Rattle.std.proofs.Common.{rules, sym}
use Rattle.td_comparison.proofs.prefixes.SitePrefixes.at.Goals as goal

pub returns-clause-found : goal.returns-clause-found
returns-clause-found c = (search rules, λ xs before. before c.args.site c.in-Some.prefix.now (sym c.in-Some.ensures.value))
