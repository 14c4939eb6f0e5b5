use Rattle.std.proofs.Common.{Vec, Global, ap, ◌∙◌, subst}
use Rattle.std.specs.FinSet as set
use Rattle.td_values.specs.Headings.{Header}
use Rattle.td_values.specs.Data.{Attrs}
use Rattle.td_relations.specs.Sets.{IsRelation, IsRelationOf}
use Rattle.td_tuples.specs.Items.{extended_columns}
use Rattle.td_algebra.specs.Extending.{Extended}
use Rattle.td_algebra.proofs.Extensions.{extension_fails, extends}
use Rattle.td_algebra.proofs.extension.relation_of_extended.Goals as goal

pub returns-in-Err : goal.returns-in-Err
returns-in-Err g c = λ m means.
    let items = c.args.items.now in
    let r = c.args.relation.now in
    extension_fails m items r (λ (v : Vec Attrs Global). v.items) (IsRelationOf (extended_columns items r.heading) (Extended m items r)) c.in-Err.fault (rw c.in-Err.is at means)

pub returns : goal.returns
returns g c = λ m means.
    let items = c.args.items.now in
    let r = c.args.relation.now in
    let us = c.in-Ok.tuples.items in
    let heading = c.in_ok-heading.ensures ∙ ap (λ (k : Header). extended_columns items k) c.heading.ensures in
    extends m items r (extended_columns items r.heading) us c.from_tuples.result (rw c.in-Ok.is at means)
    (subst (λ h. IsRelation h (set.from_list us) c.from_tuples.result) heading c.from_tuples.ensures)
