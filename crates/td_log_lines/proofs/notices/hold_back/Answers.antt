use Rattle.std.proofs.Common.{◌<◌, ◌∙◌, sym, ap, subst, get_or}
use Rattle.std.proofs.Math.ListN.{set}
use Rattle.td_log_lines.specs.Notices.{PrintedText, holds_back, held_once_more}
use Rattle.td_log_lines.proofs.Held.{found_at, not_found, few}
use Rattle.td_log_lines.proofs.notices.hold_back.Goals as goal

pub returns-in-None-clause-held : goal.returns-in-None-clause-held
returns-in-None-clause-held c =
    sym (not_found (holds_back c.args.now c.args.text.now) 0 c.args.notices.now.items
    (sym c.holding_index.ensures.found ∙ c.in-None.is))

pub hold-requires : goal.hold-requires
hold-requires c =
    let notices = c.args.notices.now.items in
    let here = c.index_mut.result.now in
    let place = found_at (holds_back c.args.now c.args.text.now) c.in-Some.at notices here
    (sym c.holding_index.ensures.found ∙ c.in-Some.is) in
    subst (λ (n : PrintedText). n.held < 1000000) (sym c.index_mut.ensures.value)
    (few c.args.now c.args.text.now (get_or notices c.in-Some.at here) place.passes)

pub returns-in-Some-clause-held : goal.returns-in-Some-clause-held
returns-in-Some-clause-held c =
    sym (found_at (holds_back c.args.now c.args.text.now) c.in-Some.at c.args.notices.now.items c.index_mut.result.now
    (sym c.holding_index.ensures.found ∙ c.in-Some.is)).any

pub returns-in-Some-clause-counted : goal.returns-in-Some-clause-counted
returns-in-Some-clause-counted c = λ _.
    let notices = c.args.notices.now.items in
    ap (λ n. set notices c.in-Some.at n) (c.hold.ensures ∙ ap held_once_more c.index_mut.ensures.value)
    ∙ (found_at (holds_back c.args.now c.args.text.now) c.in-Some.at notices c.index_mut.result.now
    (sym c.holding_index.ensures.found ∙ c.in-Some.is)).counted
