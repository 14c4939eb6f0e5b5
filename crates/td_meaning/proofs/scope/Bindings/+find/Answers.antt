use Rattle.std.proofs.Common.{◌≡◌, MatchOption, None, Some, refl, ap, sym, ◌∙◌, subst}
use Rattle.td_meaning.specs.ForProofs.Standing.{meant_value}
use Rattle.td_meaning.specs.Seen.{names_bound}
use Rattle.td_meaning.proofs.Walks.{last_given, or_outer}
use Rattle.td_meaning.proofs.scope.Bindings.+find.Goals as goal

pub returns-in-Some-latest : goal.returns-in-Some-latest
returns-in-Some-latest t c =
    let outer = names_bound c.in-Given.outer.now in
    let x = c.args.name.now in
    ap (λ s. names_bound s x) c.in-Given.is
    ∙ last_given c.in-Given.names.now outer x None (outer x) refl
    ∙ ap (λ f. or_outer f (outer x)) (sym c.in-Some-latest.ensures)
    ∙ ap Some (sym c.lent.ensures)

pub returns-in-None-latest : goal.returns-in-None-latest
returns-in-None-latest t c =
    let outer = names_bound c.in-Given.outer.now in
    let x = c.args.name.now in
    let is = ap (λ s. names_bound s x) c.in-Given.is ∙ last_given c.in-Given.names.now outer x None (outer x) refl ∙ ap (λ f. or_outer f (outer x)) (sym c.in-None-latest.ensures) in
    subst (λ o. MatchOption c.find-in-None-latest.result (o ≡ None) (λ m. o ≡ Some (meant_value m))) (sym is) c.find-in-None-latest.ensures
