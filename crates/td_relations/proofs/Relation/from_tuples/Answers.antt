use Rattle.std.proofs.Common.{refl, sym, subst}
use Rattle.std.specs.List.Sorted.{IsStrictlySortedBy}
use Rattle.td_values.specs.Alike.{AreAlike}
use Rattle.td_values.specs.Headings.{header_fields}
use Rattle.td_values.specs.Order.{attrs_order}
use Rattle.td_values.proofs.AlikeLemmas.{alike_by, alike_moved}
use Rattle.td_relations.proofs.Listed.{listed, fit_listed}
use Rattle.td_relations.proofs.Relation.from_tuples.Goals as goal

pub are_ascending-requires : goal.are_ascending-requires
are_ascending-requires c = subst AreAlike (sym c.deref.ensures.value) (alike_by (header_fields c.args.heading) c.args.tuples.items c.requires)

pub invariant_of-result : goal.invariant_of-result
invariant_of-result c = record { fit = c.requires; ascending = subst (IsStrictlySortedBy attrs_order) c.deref.ensures.value (c.are_ascending.ensures c.if-are_ascending.true) }

pub returns-then-are_ascending : goal.returns-then-are_ascending
returns-then-are_ascending c = record { heading = refl; members = refl; ascending = subst (IsStrictlySortedBy attrs_order) c.deref.ensures.value (c.are_ascending.ensures c.if-are_ascending.true) }

pub without_repeats-tuples-requires : goal.without_repeats-tuples-requires
without_repeats-tuples-requires c = alike_moved _ _ c.sort_tuples.ensures.permutation (alike_by (header_fields c.args.heading) c.args.tuples.items c.requires)

pub invariant_of-result-2 : goal.invariant_of-result-2
invariant_of-result-2 c =
    let kept = c.without_repeats-tuples.ensures in
    record {
      fit = fit_listed c.args.heading _ _ _ c.sort_tuples.ensures.permutation kept c.requires;
      ascending = (listed c.args.heading _ _ _ c.sort_tuples.ensures.permutation c.sort_tuples.ensures.sorted kept).ascending;
    }

pub returns : goal.returns
returns c = listed c.args.heading _ _ _ c.sort_tuples.ensures.permutation c.sort_tuples.ensures.sorted c.without_repeats-tuples.ensures
