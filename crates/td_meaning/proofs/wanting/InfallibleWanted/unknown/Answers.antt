use Rattle.std.proofs.Common.{ap}
use Rattle.td_algebra.specs.Raising.{and_then}
use Rattle.td_operators.specs.Operators.{as_value}
use Rattle.td_meaning.specs.Mean.{mean_relvar}
use Rattle.td_meaning.specs.Seen.{relvars_there}
use Rattle.td_meaning.specs.Selections.{selection}
use Rattle.td_meaning.proofs.Behind.{none_is_virtual, nowhere}
use Rattle.td_meaning.proofs.wanting.InfallibleWanted.unknown.Goals as goal

pub returns : goal.returns
unfolding mean_relvar relvars_there
returns c = λ names.
    let e = c.args._env.now in
    ap (λ r. and_then r as_value) (nowhere c.args._place (selection e.selectors.now) e.virtuals.now e.relvars.now c.requires.unknown (none_is_virtual c.args._place e.virtuals.now c.requires.allowed))
