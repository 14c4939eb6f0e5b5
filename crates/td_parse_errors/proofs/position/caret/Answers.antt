use Rattle.std.proofs.Common.{◌-◌, ◌++◌, map, take, encode_utf8, ap, sym, ◌∙◌}
use Rattle.std.proofs.lemmas.Iterator.{YieldsList-from_chars, YieldsList-from_take}
use Rattle.std.proofs.lemmas.Iterator.Consumers.{YieldsList-end}
use Rattle.std.specs.Iterator.Adapters.{take_source, take_count}
use Rattle.std.specs.Str.{chars}
use Rattle.std.specs.Str.Iter.{chars_rest}
use Rattle.td_parse_errors.specs.Positions.{under}
use Rattle.td_parse_errors.proofs.Carets.{more, same, hat}
use Rattle.td_parse_errors.proofs.position.caret.Goals as goal

pub loop-c-preserved : goal.loop-c-preserved
loop-c-preserved c =
    c.in_ok-push.ensures.bytes ∙ ap (λ s. s ++ encode_utf8 c.under.result) c.loop-c.invariant
    ∙ ap (λ x. map under c.loop-c.yielded ++ encode_utf8 x) c.under.ensures ∙ more c.loop-c.yielded c.in-Some.c

pub returns : goal.returns
returns c =
    let begin = c.into_iter-c-iterator.ensures.into_iter_gives in
    let source = ap take_source begin ∙ c.take-c-items.ensures.source in
    let count = ap take_count begin ∙ c.take-c-items.ensures.count ∙ c.saturating_sub.ensures in
    let whole = YieldsList-from_chars c.args.line.now c.utf8.line (ap chars_rest source ∙ c.chars.ensures.rest) in
    let end = YieldsList-end (YieldsList-from_take (c.args.column - 1) whole count) c.loop-c.yielded _ c.loop-c.yielded_by _ _ c.in-None.is c.next.ensures.steps in
    c.in_ok-push-2.ensures.bytes ∙ ap (λ s. s ++ encode_utf8 94) (c.loop-c.invariant ∙ ap (map under) (sym (same c.loop-c.yielded) ∙ end.0))
    ∙ ap (λ h. map under (take (c.args.column - 1) (chars c.args.line.now)) ++ h) hat
