use Rattle.std.proofs.Common.{Some, ap, sym, subst, ◌∙◌}
use Rattle.std.specs.Option.{option_copied}
use Rattle.td_typed_trees.specs.declared.tree.Typed.TheVariants as tree
use Rattle.td_incremental.specs.Growth.{Spreads, itself}
use Rattle.td_incremental.proofs.Reading.{base_unread}
use Rattle.td_incremental.proofs.watching.relvar_growth.Goals as goal

pub returns-then-place-relvar : goal.returns-then-place-relvar
returns-then-place-relvar c = subst (λ m. Spreads c.args.catalogue.now c.args.relvar (tree.Relvar m)) (sym c.if-place-relvar.true) itself

pub returns-in-Some-Base : goal.returns-in-Some-Base
returns-in-Some-Base c =
    base_unread c.args.catalogue.now c.args.relvar c.args.place c.in-Some-Base.field-0-0 c.in-Some-Base.field-0-1
    (sym c.origin.ensures ∙ ap option_copied c.in-Some-Base.is ∙ ap Some c.in-Some-Base.field-0-is)
    (λ e. c.if-place-relvar.false (sym e))
