use Rattle.std.proofs.Common.{not, ap, sym, ◌∙◌, arith}
use Rattle.td_tuples.specs.Parts.{is_in}
use Rattle.td_schema.proofs.Distinct.{from_none, stops, ended}
use Rattle.td_schema.proofs.lists.are_many_distinct.Goals as goal

pub returns-then-not-branch : goal.returns-then-not-branch
returns-then-not-branch c =
    let ns = c.args.names.now in
    let seen = c.loop-name.seen.keys in
    let told = c.in_ok-insert.ensures.added ∙ ap (λ m. not (is_in seen m)) c.in_ok-copy.ensures in
    sym (sym (from_none ns) ∙ c.loop-name.invariant ∙ stops ns c.loop-name.name-index c.name-item.result (omega arith) c.name-item.is seen c.in_ok-insert.field-0 told c.if-not-branch.true)

pub returns : goal.returns
returns c =
    let ns = c.args.names.now in
    sym (sym (from_none ns) ∙ c.loop-name.invariant ∙ ended ns c.loop-name.name-index c.loop-name.seen.keys (omega arith))
