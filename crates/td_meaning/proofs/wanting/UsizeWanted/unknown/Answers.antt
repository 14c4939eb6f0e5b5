use Rattle.std.proofs.Common.{◌∙◌, sym, ap}
use Rattle.td_algebra.specs.Raising.{and_then}
use Rattle.td_operators.specs.Operators.{as_value}
use Rattle.td_meaning.specs.Mean.{mean_relvar}
use Rattle.td_meaning.specs.Seen.{relvars_there}
use Rattle.td_meaning.specs.Selections.{selection}
use Rattle.td_meaning.proofs.Behind.{nowhere}
use Rattle.td_meaning.proofs.wanting.UsizeWanted.unknown.Goals as goal

pub returns-else-is_virtual : goal.returns-else-is_virtual
unfolding mean_relvar relvars_there
returns-else-is_virtual c = λ names.
    let e = c.args.env.now in
    ap (λ r. and_then r as_value) (nowhere c.args.place (selection e.selectors.now) e.virtuals.now e.relvars.now c.requires.unknown (sym c.is_virtual.ensures ∙ c.if-is_virtual.false))
