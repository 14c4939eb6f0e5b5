use Rattle.std.proofs.Common.{◌≡◌, is_some, true, false, Ok, ◌∙◌, sym, rules}
use Rattle.std.specs.FinMap as by_name
use Rattle.td_values.specs.Data.{Attrs}
use Rattle.td_operators.specs.Values.{known}
use Rattle.td_tuples.specs.Parts.{Fits}
use Rattle.td_meaning.specs.ForProofs.Checks.{side_value}
use Rattle.td_meaning.specs.ForProofs.Standing.{meant_value}
use Rattle.td_meaning.specs.Mean.{within}
use Rattle.td_meaning.specs.Seen.{names_bound}
use Rattle.td_meaning.proofs.Checks.{attribute_is, outer_is, side_weaker}
use Rattle.td_meaning.proofs.conditions.side_local.Goals as goal

pub returns-then-is_some : goal.returns-then-is_some
returns-then-is_some c =
    let there : is_some (by_name.get c.args.heading.now c.args.name.now) ≡ true = search rules in
    λ u f. attribute_is c.args.heading.now c.args.name.now u f (names_bound c.args.scope.now) c.place_in.result there c.place_in.ensures

pub returns-in-Some : goal.returns-in-Some
returns-in-Some c =
    let h = c.args.heading.now in
    let n = c.args.name.now in
    let names = names_bound c.args.scope.now in
    let none : is_some (by_name.get h n) ≡ false = search rules in
    side_weaker (λ s. (u : Attrs) → side_value u s ≡ Ok (meant_value c.in-Some.meant)) (λ s. (u : Attrs) → Fits h u → known (within u names n) ≡ side_value u s) c.side_meant.result
    (λ s is u f. outer_is h n u f names (meant_value c.in-Some.meant) none c.in-Some.ensures ∙ sym (is u)) c.side_meant.ensures
