use Rattle.std.proofs.Common.{Some, slice_get, ap, sym, subst, ◌∙◌}
use Rattle.std.specs.FinSet as set
use Rattle.td_values.specs.Headings.{Header}
use Rattle.td_values.specs.Rows.{RowsData}
use Rattle.td_algebra.specs.KeyIndexes.{AreKeyIndexes}
use Rattle.td_relations.specs.Sets.{IsRelation}
use Rattle.td_relvars.proofs.Stores.{looked_up}
use Rattle.td_assign.proofs.Turning.{apart_from_none, growth_is, of_target}
use Rattle.td_assign.proofs.sources.growth_by.Goals as goal

pub lacking_tuples-requires-clause-heading : goal.lacking_tuples-requires-clause-heading
lacking_tuples-requires-clause-heading c =
    let d = c.args.database.now in
    let n = c.args.target in
    let before = c.relation-before.result.now in
    of_target d n c.args.more.now before c.requires (looked_up (slice_get d.stored n) before (sym c.in-Some.ensures.rows ∙ ap Some (sym c.relation-before.ensures)))

pub lacking_tuples-requires-clause-indexes : goal.lacking_tuples-requires-clause-indexes
lacking_tuples-requires-clause-indexes c = subst (λ (r : RowsData). AreKeyIndexes r c.indexes.result.now) (sym c.relation-before.ensures) c.indexes.ensures

pub of-requires : goal.of-requires
of-requires c =
    let i = c.in_ok-inserted-in-Some.inserted in
    let e = c.empty-deleted.result in
    record {
      heading = sym (c.empty-deleted.ensures.heading ∙ c.in_ok-copy-in-Some.ensures ∙ c.heading.ensures);
      apart = apart_from_none i e c.empty-deleted.ensures.members;
    }

pub returns : goal.returns
returns c =
    let d = c.args.database.now in
    let n = c.args.target in
    let s = c.args.more.now in
    let before = c.relation-before.result.now in
    let e = c.empty-deleted.result in
    let heading = c.in_ok-copy-in-Some.ensures ∙ c.heading.ensures ∙ c.in_ok-inserted-in-Some.ensures.heading in
    growth_is d n s before c.requires (looked_up (slice_get d.stored n) before (sym c.in-Some.ensures.rows ∙ ap Some (sym c.relation-before.ensures)))
    c.in_ok-inserted-in-Some.inserted e c.of.result c.rows_fit.ensures c.rows_fit-in-Some.ensures c.in_ok-inserted-in-Some.ensures (subst (λ (h : Header). IsRelation h set.empty e) heading c.empty-deleted.ensures) c.of.ensures
