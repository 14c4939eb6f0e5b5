use Rattle.std.proofs.Common.{sym, subst}
use Rattle.td_algebra.specs.Raising.{AnswersBy}
use Rattle.td_meaning.specs.Seen.{relvars_there}
use Rattle.td_meaning.specs.Selections.{selection}
use Rattle.td_meaning.proofs.Behind.{known_first, through_option}
use Rattle.td_meaning.proofs.environment.relvar_known.Goals as goal

pub returns : goal.returns
unfolding relvars_there
returns g c =
    let e = c.args.env.now in
    through_option c.relvar_at.result _ _ _
    (λ r p. subst (AnswersBy (λ l. l.now) r) (sym (known_first c.args.place (selection e.selectors.now) e.virtuals.now e.relvars.now p.0)) p.1)
    c.relvar_at.ensures
