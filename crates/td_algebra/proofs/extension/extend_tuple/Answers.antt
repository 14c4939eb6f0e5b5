use Rattle.std.proofs.Common.{sym, ap, ◌∙◌, subst}
use Rattle.std.specs.FinMap as by_name
use Rattle.td_tuples.specs.Parts.{Fits}
use Rattle.td_tuples.specs.Unions.{beside, tuple_of}
use Rattle.td_tuples.proofs.ByName.{fits-tuple_of, fits-beside}
use Rattle.td_values.specs.Order.{text_cmp}
use Rattle.td_tuples.specs.Items.{columns_of, extended_columns}
use Rattle.td_algebra.proofs.extension.extend_tuple.Goals as goal

pub returns-clause-typed : goal.returns-clause-typed
returns-clause-typed g c = λ h fits.
    let t = c.args.tuple.now in
    let fs = c.in-Ok.fields.items in
    let new = subst (λ cs. Fits (by_name.from_entries {R = text_cmp} cs) (tuple_of fs)) c.in-Ok.ensures.typed (fits-tuple_of fs) in
    subst (Fits (extended_columns c.args.items.now h)) (sym (c.in_ok-beside.ensures ∙ ap (λ a. beside a t) c.in_ok-added.ensures)) (fits-beside (columns_of c.args.items.now) h (tuple_of fs) t new fits)
