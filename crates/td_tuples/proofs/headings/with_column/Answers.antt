use Rattle.std.proofs.Common.{[], ◌∷◌, ap, ◌∙◌, refl}
use Rattle.std.specs.FinMap as by_name
use Rattle.td_tuples.proofs.Lists.{from_entries-entries}
use Rattle.td_tuples.proofs.Steps.{added}
use Rattle.td_tuples.proofs.headings.with_column.Goals as goal

pub returns : goal.returns
returns c =
    let n = c.args.name in
    let ty = c.args.ty in
    let one = added [] (n, ty) n ty _ _ _ refl refl c.in_ok-more.ensures c.in_ok-insert.ensures.new c.in_ok-insert.ensures.ok in
    c.in_ok-add_columns.ensures ((n, ty) ∷ []) one
    ∙ ap (λ fs. by_name.insert (by_name.from_entries fs) n ty) c.fields.ensures
    ∙ ap (λ h. by_name.insert h n ty) (from_entries-entries c.args.heading.now)
