use Rattle.std.proofs.Common.{ap, sym, ◌∙◌, subst, arith}
use Rattle.td_schema.specs.Results.{Gives}
use Rattle.td_schema.specs.Scopes.{visible}
use Rattle.td_schema.specs.Written.{names}
use Rattle.td_typing.specs.ForProofs.Infer.{infer, infer_tuple, infer_extend, infer_summarize, named_inferred, groups_inferred, summaries_inferred}
use Rattle.td_typing.proofs.Equations.{of_tuple, of_extend, of_summarize}
use Rattle.td_typing.proofs.LevelLemmas.{in_list, in_named, in_summaries, call_falls, relation_falls, tuple_falls, extend_falls, with_falls, summarize_falls}
use Rattle.td_typing.proofs.typing.+typing.Goals as goal

pub operands-typing-requires : goal.operands-typing-requires
operands-typing-requires t c = (omega (arith, c.decreases, in_list c.args.xs.now c.loop-x.x-index c.x-item.result _ c.loop-x-test.true c.x-item.is c.get.ensures), tt)

pub items-typing-requires : goal.items-typing-requires
items-typing-requires t c = (omega (arith, c.decreases, in_named c.args.xs.now c.loop-x.x-index c.x-item.result _ c.loop-x-test.true c.x-item.is c.get.ensures), tt)

pub introduced-typing-requires : goal.introduced-typing-requires
introduced-typing-requires t c = (omega (arith, c.decreases, in_named c.args.xs.now c.loop-x.x-index c.x-item.result _ c.loop-x-test.true c.x-item.is c.get.ensures), tt)

pub summaries-summary-requires : goal.summaries-summary-requires
summaries-summary-requires t c = (omega (arith, c.decreases, in_summaries c.args.xs.now c.loop-x.x-index c.x-item.result c.loop-x-test.true c.x-item.is), tt)

pub typing-call-requires : goal.typing-call-requires
typing-call-requires t c = (omega (arith, c.decreases, call_falls c.args.expr.now c.in-Call.name c.in-Call.xs _ c.in-Call.is c.as_slice.ensures), tt)

pub typing-tuple-requires : goal.typing-tuple-requires
typing-tuple-requires t c = (omega (arith, c.decreases, tuple_falls c.args.expr.now c.in-Tuple.xs _ c.in-Tuple.is c.as_slice-in-Tuple.ensures), tt)

pub typing-relation-requires : goal.typing-relation-requires
typing-relation-requires t c = (omega (arith, c.decreases, relation_falls c.args.expr.now c.in-Relation.written c.in-Relation.xs _ c.in-Relation.is c.as_slice-in-Relation.ensures), tt)

pub typing-extension-requires : goal.typing-extension-requires
typing-extension-requires t c = (omega (arith, c.decreases, extend_falls c.args.expr.now c.in-Extend.kind c.in-Extend.a _ c.in-Extend.xs _ c.in-Extend.is c.get-in-Extend.ensures c.as_slice-in-Extend.ensures), tt)

pub typing-with-requires : goal.typing-with-requires
typing-with-requires t c = (omega (arith, c.decreases, with_falls c.args.expr.now c.in-With.body _ c.in-With.xs _ c.in-With.is c.get-in-With.ensures c.as_slice-in-With.ensures), tt)

pub typing-summarization-requires : goal.typing-summarization-requires
typing-summarization-requires t c = (omega (arith, c.decreases, summarize_falls c.args.expr.now c.in-Summarize.a _ c.in-Summarize.by c.in-Summarize.xs _ c.in-Summarize.is c.get-in-Summarize.ensures c.as_slice-in-Summarize.ensures), tt)

pub typing-returns-in-Tuple : goal.typing-returns-in-Tuple
typing-returns-in-Tuple t c =
    let s = c.args.schema.now in
    let is = ap (infer s) c.in-Tuple.is ∙ of_tuple s c.in-Tuple.xs ∙ ap (λ ys. infer_tuple (names ys) (named_inferred s ys)) (sym c.as_slice-in-Tuple.ensures) in
    subst (λ f. Gives (f (visible c.args.scope.now)) c.tuple.result) (sym is) c.tuple.ensures

pub typing-returns-in-Extend : goal.typing-returns-in-Extend
typing-returns-in-Extend t c =
    let s = c.args.schema.now in
    let is = ap (infer s) c.in-Extend.is ∙ of_extend s c.in-Extend.kind c.in-Extend.a c.in-Extend.xs
    ∙ ap (λ b. infer_extend c.in-Extend.kind (infer s b) (names c.in-Extend.xs) (named_inferred s c.in-Extend.xs)) (sym c.get-in-Extend.ensures)
    ∙ ap (λ ys. infer_extend c.in-Extend.kind (infer s c.get-in-Extend.result.now) (names ys) (named_inferred s ys)) (sym c.as_slice-in-Extend.ensures) in
    subst (λ f. Gives (f (visible c.args.scope.now)) c.extension.result) (sym is) c.extension.ensures

pub typing-returns-in-Summarize : goal.typing-returns-in-Summarize
typing-returns-in-Summarize t c =
    let s = c.args.schema.now in
    let is = ap (infer s) c.in-Summarize.is ∙ of_summarize s c.in-Summarize.a c.in-Summarize.by c.in-Summarize.xs
    ∙ ap (λ b. infer_summarize (infer s b) (groups_inferred s c.in-Summarize.by) (names c.in-Summarize.xs) (summaries_inferred s c.in-Summarize.xs)) (sym c.get-in-Summarize.ensures)
    ∙ ap (λ ys. infer_summarize (infer s c.get-in-Summarize.result.now) (groups_inferred s c.in-Summarize.by) (names ys) (summaries_inferred s ys)) (sym c.as_slice-in-Summarize.ensures) in
    subst (λ f. Gives (f (visible c.args.scope.now)) c.summarization.result) (sym is) c.summarization.ensures
