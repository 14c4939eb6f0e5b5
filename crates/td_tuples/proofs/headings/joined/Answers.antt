use Rattle.std.proofs.Common.{ap, sym, ◌∙◌, ◌++◌}
use Rattle.std.specs.FinMap as by_name
use Rattle.td_tuples.proofs.Lists.{from_entries-entries}
use Rattle.td_tuples.proofs.headings.joined.Goals as goal

pub returns : goal.returns
returns c =
    let h = c.args.first.now in
    c.in_ok-add_columns.ensures (by_name.entries h) (c.in_ok-both.ensures ∙ sym (from_entries-entries h))
    ∙ ap (λ fs. by_name.from_entries (by_name.entries h ++ fs)) c.fields.ensures
