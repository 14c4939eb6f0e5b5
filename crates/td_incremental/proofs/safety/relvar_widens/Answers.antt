use Rattle.std.proofs.Common.{sym, subst}
use Rattle.td_typed_trees.specs.declared.tree.Typed.TheVariants as tree
use Rattle.td_incremental.specs.Safety.{Widens, itself}
use Rattle.td_incremental.proofs.safety.relvar_widens.Goals as goal

pub returns-then-place-relvar : goal.returns-then-place-relvar
returns-then-place-relvar c = λ t. subst (λ m. Widens c.args.catalogue.now c.args.relvar (tree.Relvar m)) (sym c.if-place-relvar.true) itself
