use Rattle.std.proofs.Common.{ap, sym, ◌∙◌, subst, length, map}
use Rattle.td_headings.specs.Catalogues.{CatalogueData}
use Rattle.td_headings.specs.ForProofs.After.{opening_after}
use Rattle.td_headings.specs.ForProofs.Changes.{Changes}
use Rattle.td_headings.specs.declared.defined.Test.TheVariants as test
use Rattle.td_headings.specs.ForProofs.TestNames.{constraint_names}
use Rattle.td_headings.proofs.Placed.{base_put}
use Rattle.td_headings.proofs.TestNames.{keys_have_none}
use Rattle.td_headings.proofs.defined.Definitions.define_base.Goals as goal

pub put_relvar-requires : goal.put_relvar-requires
put_relvar-requires c = ap constraint_names c.in_ok-tests.ensures ∙ keys_have_none (length c.as_slice-place.result.now) c.as_slice.result.now

pub returns : goal.returns
returns c =
    let old = c.args.self.now in
    let is = base_put old c.args.name.now c.in_ok-name.name c.in_ok-name.ensures c.args.opening.now c.args.keys.now _ _ _ _ _
    (ap (λ (d : CatalogueData). opening_after d.schema c.args.opening.now) (sym c.self.view_is) ∙ c.in_ok-heading.ensures)
    c.in_ok-keys.ensures
    (c.in_ok-tests.ensures ∙ ap (map (test.Key (length c.as_slice-place.result.now))) c.as_slice.ensures)
    (ap length c.as_slice-place.ensures.value ∙ ap (λ (d : CatalogueData). length d.origins) c.self.view_is) in
    subst (λ o. Changes old o c.put_relvar.result c.put_relvar.new.self) (sym is) c.put_relvar.ensures
