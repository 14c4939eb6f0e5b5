use Rattle.std.proofs.Common.{◌-◌, nat_le, ap, sym, ◌∙◌}
use Rattle.td_syntax.specs.Levels.{levels, named_levels}
use Rattle.td_syntax.specs.ForProofs.Parts.{list_levels, summaries_levels}
use Rattle.td_syntax.proofs.Within.{call_within, relation_within, tuple_within, extend_within, with_within, summarize_within}
use Rattle.td_syntax.proofs.levels.+within.Goals as goal

pub within-returns-in-Call : goal.within-returns-in-Call
within-returns-in-Call t c = c.list_within.ensures ∙ ap (λ xs. nat_le (list_levels xs) (c.args.most - 1)) c.as_slice.ensures ∙ sym (call_within _ _ _ c.args.most c.in-Call.is c.if-most-eq0.false)

pub within-returns-in-Relation : goal.within-returns-in-Relation
within-returns-in-Relation t c = c.list_within-in-Relation.ensures ∙ ap (λ xs. nat_le (list_levels xs) (c.args.most - 1)) c.as_slice-in-Relation.ensures ∙ sym (relation_within _ _ _ c.args.most c.in-Relation.is c.if-most-eq0.false)

pub within-returns-in-Tuple : goal.within-returns-in-Tuple
within-returns-in-Tuple t c = c.named_within.ensures ∙ ap (λ xs. nat_le (named_levels xs) (c.args.most - 1)) c.as_slice-in-Tuple.ensures ∙ sym (tuple_within _ _ c.args.most c.in-Tuple.is c.if-most-eq0.false)

pub within-returns-then-within-2 : goal.within-returns-then-within-2
within-returns-then-within-2 t c =
    let first = ap (λ a. nat_le (levels a) (c.args.most - 1)) (sym c.get-in-Extend.ensures) ∙ sym c.within-in-Extend.ensures ∙ c.if-within-2.true in
    c.named_within-then-within-2.ensures ∙ ap (λ xs. nat_le (named_levels xs) (c.args.most - 1)) c.as_slice-then-within-2.ensures ∙ sym (extend_within _ _ _ _ c.args.most c.in-Extend.is c.if-most-eq0.false first)

pub within-returns-then-within-3 : goal.within-returns-then-within-3
within-returns-then-within-3 t c =
    let first = ap (λ a. nat_le (levels a) (c.args.most - 1)) (sym c.get-in-With.ensures) ∙ sym c.within-in-With.ensures ∙ c.if-within-3.true in
    c.named_within-then-within-3.ensures ∙ ap (λ xs. nat_le (named_levels xs) (c.args.most - 1)) c.as_slice-then-within-3.ensures ∙ sym (with_within _ _ _ c.args.most c.in-With.is c.if-most-eq0.false first)

pub within-returns-then-within-4 : goal.within-returns-then-within-4
within-returns-then-within-4 t c =
    let groups = sym c.groups_within.ensures ∙ c.if-not-groups_within.false in
    let first = ap (λ a. nat_le (levels a) (c.args.most - 1)) (sym c.get-in-Summarize.ensures) ∙ sym c.within-in-Summarize.ensures ∙ c.if-within-4.true in
    c.summaries_within.ensures ∙ ap (λ xs. nat_le (summaries_levels xs) (c.args.most - 1)) c.as_slice-then-within-4.ensures ∙ sym (summarize_within _ _ _ _ c.args.most c.in-Summarize.is c.if-most-eq0.false groups first)
