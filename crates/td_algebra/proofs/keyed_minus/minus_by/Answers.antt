use Rattle.std.proofs.Common.{◌≡◌, ◌∙◌, sym, subst}
use Rattle.td_values.specs.Rows.{AreRows}
use Rattle.td_relations.specs.Merges.{first_alone}
use Rattle.td_relations.proofs.Merging.{KeptOf, difference_of_kept, lacking_is_merge, of_merge, rows_of_merge}
use Rattle.td_algebra.proofs.keyed_minus.minus_by.Goals as goal

pub new-requires : goal.new-requires
new-requires c =
    let a = c.args.a.now in
    let b = c.args.b.now in
    let same = c.in_ok-heading.ensures ∙ c.heading.ensures in
    let merge = lacking_is_merge a.tuples b.tuples c.in_ok-tuples.tuples.items c.rows_fit.ensures.ascending c.in_ok-tuples.ensures in
    let others = subst (λ h. AreRows h b.tuples) (sym c.requires.heading) c.rows_fit-2.ensures in
    subst (λ h. AreRows h c.in_ok-tuples.tuples.items) (sym same) (rows_of_merge first_alone a.heading a.tuples b.tuples c.in_ok-tuples.tuples.items merge c.rows_fit.ensures others)

pub returns : goal.returns
returns c =
    let a = c.args.a.now in
    let b = c.args.b.now in
    let us = c.in_ok-tuples.tuples.items in
    let same = c.in_ok-heading.ensures ∙ c.heading.ensures in
    let is : c.of.result ≡ record { heading = a.heading; tuples = us } = c.of.ensures.same ∙ c.new.ensures ∙ (λ i. record { heading = same i; tuples = us }) in
    let merge = lacking_is_merge a.tuples b.tuples us c.rows_fit.ensures.ascending c.in_ok-tuples.ensures in
    difference_of_kept a.heading a b c.of.result (subst (KeptOf first_alone a b a.heading) (sym is) (of_merge first_alone a b us merge))
