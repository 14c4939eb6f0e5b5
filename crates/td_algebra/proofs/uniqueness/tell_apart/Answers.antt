use Rattle.std.proofs.Common.{ap, ◌∙◌}
use Rattle.td_tuples.specs.Parts.{columns_in}
use Rattle.td_algebra.proofs.Apart.{tells}
use Rattle.td_algebra.proofs.uniqueness.tell_apart.Goals as goal

pub returns : goal.returns
returns c =
    let names = c.args.names.now in
    let x = c.in_ok-index.index in
    tells names c.args.r.now c.in_ok-columns.columns x c.has_repeats.result (c.in_ok-columns.ensures ∙ ap (columns_in names) c.heading.ensures) c.in_ok-index.ensures x.sorted c.has_repeats.ensures
