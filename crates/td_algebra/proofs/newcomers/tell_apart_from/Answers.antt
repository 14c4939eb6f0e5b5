use Rattle.std.proofs.Common.{ap, ◌∙◌}
use Rattle.std.specs.List.{list_all}
use Rattle.td_tuples.specs.Parts.{columns_in}
use Rattle.td_algebra.specs.ForProofs.Index.{are_all, found}
use Rattle.td_algebra.proofs.Told.{told_from}
use Rattle.td_algebra.proofs.newcomers.tell_apart_from.Goals as goal

pub returns : goal.returns
returns c =
    let names = c.args.names.now in
    let x = c.in_ok-index.index in
    told_from names c.args.inserted.now c.args.after.now c.requires c.in_ok-columns.columns (c.in_ok-columns.ensures ∙ ap (columns_in names) c.heading.ensures) x c.in_ok-index.ensures
    c.find_themselves.result (c.find_themselves.ensures ∙ ap (list_all (λ t. are_all t (found x t))) c.tuples.ensures.all)
