use Rattle.std.proofs.Common.{◌≡◌, None, sym, subst}
use Rattle.td_semantics.specs.Scripts.{OpensOn}
use Rattle.td_semantics.specs.declared.error.CatalogueError.TheVariants as catalogue_error
use Rattle.td_listings.proofs.Accepted.{made_or_wants}
use Rattle.td_listings.proofs.writing.script_catalogue.Goals as goal

pub unreachable-requires : goal.unreachable-requires
unreachable-requires g c =
    let history = c.history_is_sound.ensures.told.1 in
    let opens = subst (λ t. OpensOn t None history.opening) (sym c.script.ensures) history.opens in
    let wants : c.in-Err-Syntax.field-0 ≡ catalogue_error.OutOfMemory = made_or_wants c.script.result.now history.opening c.in-Err-Syntax.field-0 opens c.in-Err-Syntax.ensures in
    let is = c.in-Err-Syntax.field-0-is in cc

pub unreachable-requires-in-Err-IllTyped : goal.unreachable-requires-in-Err-IllTyped
unreachable-requires-in-Err-IllTyped g c =
    let history = c.history_is_sound.ensures.told.1 in
    let opens = subst (λ t. OpensOn t None history.opening) (sym c.script.ensures) history.opens in
    let wants : c.in-Err-IllTyped.field-0 ≡ catalogue_error.OutOfMemory = made_or_wants c.script.result.now history.opening c.in-Err-IllTyped.field-0 opens c.in-Err-IllTyped.ensures in
    let is = c.in-Err-IllTyped.field-0-is in cc
