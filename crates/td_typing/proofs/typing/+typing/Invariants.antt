use Rattle.std.proofs.Common.{◌≡◌, ◌+◌, ◌*◌, max, [], drop}
use Rattle.td_syntax.specs.Levels.{levels, named_levels}
use Rattle.td_syntax.specs.ForProofs.Parts.{list_levels, summary_levels, summaries_levels, groups_levels}
use Rattle.td_schema.specs.Scopes.{visible}
use Rattle.td_typing.specs.ForProofs.Infer.{all_inferred, named_inferred, summaries_inferred, infer_each, infer_item, infer_summary, infer_in_turn, each}
use Rattle.td_typing.proofs.typing.+typing.Given as goal

abbrev pub decreases-typing : goal.decreases-typing
decreases-typing l = 5 * levels l.expr.now

abbrev pub decreases-unary : goal.decreases-unary
decreases-unary l = 5 * levels l.a.now + 1

abbrev pub decreases-attribute : goal.decreases-attribute
decreases-attribute l = 5 * levels l.a.now + 1

abbrev pub decreases-projection : goal.decreases-projection
decreases-projection l = 5 * levels l.a.now + 1

abbrev pub decreases-renaming : goal.decreases-renaming
decreases-renaming l = 5 * levels l.a.now + 1

abbrev pub decreases-nesting : goal.decreases-nesting
decreases-nesting l = 5 * levels l.a.now + 1

abbrev pub decreases-unnesting : goal.decreases-unnesting
decreases-unnesting l = 5 * levels l.a.now + 1

abbrev pub decreases-lone_aggregate : goal.decreases-lone_aggregate
decreases-lone_aggregate l = 5 * levels l.a.now + 1

abbrev pub decreases-binary : goal.decreases-binary
decreases-binary l = 5 * max (levels l.a.now) (levels l.b.now) + 1

abbrev pub decreases-choice : goal.decreases-choice
decreases-choice l = 5 * max (levels l.a.now) (max (levels l.b.now) (levels l.c.now)) + 1

abbrev pub decreases-restriction : goal.decreases-restriction
decreases-restriction l = 5 * max (levels l.a.now) (levels l.condition.now) + 1

abbrev pub decreases-aggregation : goal.decreases-aggregation
decreases-aggregation l = 5 * max (levels l.a.now) (levels l.term.now) + 1

abbrev pub decreases-operands : goal.decreases-operands
decreases-operands l = 5 * list_levels l.xs.now + 1

abbrev pub decreases-selector : goal.decreases-selector
decreases-selector l = 5 * list_levels l.xs.now + 2

abbrev pub decreases-component : goal.decreases-component
decreases-component l = 5 * list_levels l.xs.now + 1

abbrev pub decreases-call : goal.decreases-call
decreases-call l = 5 * list_levels l.xs.now + 3

abbrev pub decreases-relation : goal.decreases-relation
decreases-relation l = 5 * list_levels l.xs.now + 2

abbrev pub decreases-items : goal.decreases-items
decreases-items l = 5 * named_levels l.xs.now + 1

abbrev pub decreases-tuple : goal.decreases-tuple
decreases-tuple l = 5 * named_levels l.xs.now + 2

abbrev pub decreases-extension : goal.decreases-extension
decreases-extension l = 5 * max (levels l.a.now) (named_levels l.xs.now) + 2

abbrev pub decreases-groups : goal.decreases-groups
decreases-groups l = 5 * groups_levels l.groups.now + 1

abbrev pub decreases-summary : goal.decreases-summary
decreases-summary l = 5 * summary_levels l.summary.now + 1

abbrev pub decreases-summaries : goal.decreases-summaries
decreases-summaries l = 5 * summaries_levels l.xs.now + 2

abbrev pub decreases-summarization : goal.decreases-summarization
decreases-summarization l = 5 * max (levels l.a.now) (max (groups_levels l.by.now) (summaries_levels l.xs.now)) + 3

abbrev pub decreases-introduced : goal.decreases-introduced
decreases-introduced l = 5 * named_levels l.xs.now + 1

abbrev pub decreases-with : goal.decreases-with
decreases-with l = 5 * max (named_levels l.xs.now) (levels l.body.now) + 2

abbrev pub invariant-operands-loop-x : goal.invariant-operands-loop-x
invariant-operands-loop-x l =
    infer_each [] [] (all_inferred l.schema l.xs) (visible l.scope)
    ≡ infer_each l.trees l.kinds (all_inferred l.schema (drop l.x-index l.xs)) (visible l.scope)

abbrev pub invariant-items-loop-x : goal.invariant-items-loop-x
invariant-items-loop-x l =
    each (infer_item (visible l.scope)) [] (named_inferred l.schema l.xs)
    ≡ each (infer_item (visible l.scope)) l.found (named_inferred l.schema (drop l.x-index l.xs))

abbrev pub invariant-summaries-loop-x : goal.invariant-summaries-loop-x
invariant-summaries-loop-x l =
    each (infer_summary (visible l.scope)) [] (summaries_inferred l.schema l.xs)
    ≡ each (infer_summary (visible l.scope)) l.found (summaries_inferred l.schema (drop l.x-index l.xs))

abbrev pub invariant-introduced-loop-x : goal.invariant-introduced-loop-x
invariant-introduced-loop-x l =
    infer_in_turn [] [] (named_inferred l.schema l.xs) (visible l.scope)
    ≡ infer_in_turn l.trees l.kinds (named_inferred l.schema (drop l.x-index l.xs)) (visible l.scope)
